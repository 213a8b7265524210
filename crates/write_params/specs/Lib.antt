pub mod WritesParams
