-- The row of the side that the rules say, or no part.
use mathlib.Core.Path.{refl, ◌∙◌}
use native.Mathlib.Omega.{arith}
use Rattle.paper.specs.Shown.{side_at}
use Rattle.kettleflock.proofs.Sides.{side_begins, side_told, shown, first_lies}
use Rattle.kettleflock.proofs.showing.standing_at.Goals as goal

pub words_of-requires : goal.words_of-requires
words_of-requires g c =
    let side = side_told _ _ _ _ c.requires.0 _ c.requires.1 in
    (omega arith, (side_begins _ _ _ _ c.args.w.few 1 (omega arith) ((rw c.in-Some-Source.field-0-is at c.in-Some-Source.ensures) ∙ side)).0)

pub words_of-requires-in-Some-Target : goal.words_of-requires-in-Some-Target
words_of-requires-in-Some-Target g c =
    let side = side_told _ _ _ _ c.requires.0 _ c.requires.1 in
    (omega arith, (side_begins _ _ _ _ c.args.w.few 2 (omega arith) ((rw c.in-Some-Target.field-0-is at c.in-Some-Target.ensures) ∙ side)).1)

pub returns-in-Some-Source : goal.returns-in-Some-Source
unfolding side_at
returns-in-Some-Source g c =
    let side = side_told _ _ _ _ c.requires.0 _ c.requires.1 in
    shown _ _ _ _ _ _ 1 ((rw c.in-Some-Source.field-0-is at c.in-Some-Source.ensures) ∙ side) _ _ c.words_of.ensures

pub returns-in-Some-Target : goal.returns-in-Some-Target
unfolding side_at
returns-in-Some-Target g c =
    let side = side_told _ _ _ _ c.requires.0 _ c.requires.1 in
    shown _ _ _ _ _ _ 2 ((rw c.in-Some-Target.field-0-is at c.in-Some-Target.ensures) ∙ side) _ _ c.words_of-in-Some-Target.ensures

pub returns-in-None : goal.returns-in-None
unfolding side_at
returns-in-None g c = shown _ _ _ _ _ _ 0 (c.in-None.ensures ∙ side_told _ _ _ _ c.requires.0 _ c.requires.1) _ _ (refl, first_lies _)
