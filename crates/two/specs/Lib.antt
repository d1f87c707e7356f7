pub mod PlanNumber
