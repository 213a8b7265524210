pub mod WritesTrust
