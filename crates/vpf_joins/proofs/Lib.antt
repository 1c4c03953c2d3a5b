mod RisingLemmas
mod TileLemmas
