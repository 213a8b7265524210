pub mod ParamFiles
pub mod OneAnswer
