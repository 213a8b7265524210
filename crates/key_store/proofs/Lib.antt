pub mod LevelLemmas
pub mod SpellLemmas
pub mod ReadLemmas
pub mod ListLemmas
pub mod KeyLemmas
pub mod HistoryLemmas
