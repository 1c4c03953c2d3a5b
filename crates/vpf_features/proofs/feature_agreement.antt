mod ReadLemmas
mod ThemeRows
mod FeatureLines
mod FeatureTables
