pub mod Plans
pub mod Named
pub mod Untiled
pub mod PlanLoads
