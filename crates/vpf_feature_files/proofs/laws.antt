mod KnownLaws
mod ColumnLemmas
mod HeldTables
mod HeldFeatures
mod ReadFeatures
