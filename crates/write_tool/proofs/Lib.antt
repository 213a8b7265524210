pub mod Dues
