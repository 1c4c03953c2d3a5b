-- A file that begins with the bytes of a header of another begins with that header.
use Rattle.std.proofs.Common.{◌≡◌, ℕ, ◌++◌, eqb, true, List, length, take, drop, Ok, refl, ap, ◌∙◌, arith}
use Rattle.std.specs.List.{starts_with}
use Rattle.std.proofs.lemmas.Bool.Decides.{Decides-eqb}
use Rattle.std.proofs.lemmas.List.{length-take}
use Rattle.std.proofs.lemmas.Slice.Eq.{starts_is}
use Rattle.vpf_base.specs.Bytes.{IsBytes}
use Rattle.vpf_head.specs.Head.{Head}
use Rattle.vpf_head.specs.Reading.{header_of}
use Rattle.vpf_table.specs.Inner.Lower.{CellAndHeaderLaws}

pub header_shared : CellAndHeaderLaws → (bytes own : List ℕ) (h : Head) (start : ℕ) → IsBytes own → header_of own ≡ Ok (h, start) → starts_with eqb bytes (take start own) ≡ true → header_of bytes ≡ Ok (h, start)
header_shared laws bytes own h start fits read begins =
    let s = laws.header_is_spelled own h start fits read in
    let front : List ℕ = take start own in
    let split : bytes ≡ front ++ drop (length front) bytes = (starts_is Decides-eqb bytes front _ refl).0 begins in
    let long : length front ≡ start = omega (arith, s.0, length-take start own) in
    laws.header_is_read bytes h front (drop (length front) bytes) (record { parts = split; spelled = s.1 }) ∙ ap (λ (n : ℕ). Ok (h, n)) long
