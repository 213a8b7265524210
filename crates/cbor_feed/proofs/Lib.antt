pub mod HeadSteps
pub mod PartSteps
pub mod HandSteps
pub mod ChainSteps
pub mod FeedSteps
pub mod PieceLaws
