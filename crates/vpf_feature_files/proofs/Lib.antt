mod Steps
mod IndexLemmas
mod TableLemmas
mod FeatureLemmas
mod SchemaLemmas
