pub mod PathLaws
pub mod Fronts
pub mod NodeLaws
pub mod SignatureLaws
pub mod FourParts
pub mod TreeLaws
