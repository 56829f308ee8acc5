mod PrintedLemmas
mod RunLemmas
mod RunnerLemmas
