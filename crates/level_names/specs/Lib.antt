pub mod LevelNames
