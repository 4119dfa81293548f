mod FlatWordsLemmas
mod FlatScriptLemmas
pub mod WordRuns
mod RunExamples
