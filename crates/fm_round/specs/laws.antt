pub mod PlanEqualityLaws
