mod DigitLemmas
mod WordLemmas
mod ScanLemmas
mod IndexLemmas
