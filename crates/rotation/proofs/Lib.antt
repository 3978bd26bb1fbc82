pub mod ParameterCases
pub mod RootsFound
pub mod FiniteOperands
pub mod ReportFormulas
pub mod HalvedQuotient
pub mod TurnBounds
pub mod ExactPairs
