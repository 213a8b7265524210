pub mod VerifyLaws
pub mod PartsRead
pub mod CapacityLaws
pub mod BranchLaws
pub mod FunctionLaws
pub mod HssLaws
pub mod LengthLaws
pub mod IndexLaws
