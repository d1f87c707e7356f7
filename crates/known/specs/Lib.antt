pub mod KnownTime
