pub mod PlanArcs
pub mod UnitQueues
pub mod AdmissionSteps
pub mod MachineHoldings
