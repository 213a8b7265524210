pub mod OneMember
pub mod Depths
pub mod Judging
