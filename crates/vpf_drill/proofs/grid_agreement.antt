pub mod AgreementLemmas
