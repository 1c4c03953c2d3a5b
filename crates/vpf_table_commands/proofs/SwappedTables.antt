-- A table that is swapped twice gives its canonical bytes.
use Rattle.std.proofs.Common.{◌≡◌, ◌∙◌, ℕ, List, ◌∷◌, Option, None, Some, Result, Ok, refl, sym, ap, subst}
use Rattle.vpf_base.specs.Bytes.{IsBytes}
use Rattle.vpf_source.specs.declared.file.File.{File}
use Rattle.vpf_base.specs.declared.orders.Order.{Order}
use Rattle.vpf_base.specs.declared.orders.Order.TheVariants.{Little, Big}
use Rattle.vpf_triplet.specs.declared.places.Part.{Part}
use Rattle.vpf_triplet.specs.declared.places.Place.{Place}
use Rattle.vpf_table.specs.declared.limit.Limit.{Limit}
use Rattle.vpf_table.specs.Canonical.{IsWritable, canonical_index, canonical_table, in_order}
use Rattle.vpf_table.specs.Grid.{Grid}
use Rattle.vpf_table.specs.Reading.{table_of}
use Rattle.vpf_write.specs.Writing.{first_limit}
use Rattle.vpf_replies.specs.declared.verdict.Verdict.TheVariants.{Done}
use Rattle.vpf_replies.specs.Answer.{Answer}
use Rattle.vpf_table_commands.specs.Swap.{SwappedTwiceIsCanonical}
use Rattle.vpf_replies.specs.Making.{made_answer}
use Rattle.vpf_write.specs.Made.Files.{index_files, table_files}
use Rattle.vpf_table_commands.specs.Swap.{other_order, turned, written_answer, written_by}
use Rattle.vpf_replies.specs.Tables.{on_table}

-- the laws of tables that are used
pub record Laws : Type 0 where
  pub writable : (bytes : List ℕ) (g : Grid) (order : Order) → IsBytes bytes → table_of bytes ≡ Ok g → IsWritable (in_order order g)
  pub read : (g : Grid) → IsWritable g → first_limit g ≡ None → table_of (canonical_table g) ≡ Ok g
  pub limits : (g : Grid) (order : Order) → first_limit (in_order order g) ≡ first_limit g
  pub table : (g h : Grid) (order : Order) → IsWritable g → first_limit g ≡ None → table_of (canonical_table (in_order order g)) ≡ Ok h → canonical_table (in_order g.head.order h) ≡ canonical_table g
  pub index : (g h : Grid) (order : Order) → IsWritable g → first_limit g ≡ None → table_of (canonical_table (in_order order g)) ≡ Ok h → canonical_index (in_order g.head.order h) ≡ canonical_index g

order_back : (o : Order) → other_order (other_order o) ≡ o
order_back Little = refl
order_back Big = refl

done_within : (name : List ℕ) (g : Grid) (limit : Option (Part × Limit)) → (written_by name g limit).verdict ≡ Done → limit ≡ None
done_within name g None e = refl
done_within name g (Some stop) e = absurd (cc e)

swap_over : (name out : List ℕ) (table : Result Grid Place) (g : Grid) → table ≡ Ok g → on_table (λ (x : Grid). written_answer out (turned x)) name table ≡ written_answer out (turned g)
swap_over name out table g e = rw e refl

written_within : (name : List ℕ) (g : Grid) (limit : Option (Part × Limit)) → limit ≡ None → written_by name g limit ≡ made_answer (table_files name g)
written_within name g limit e = rw e refl

file_of : List ℕ → List ℕ → File
file_of name bytes = record { name = name; bytes = bytes }

files_alike : (name : List ℕ) (g h : Grid) → canonical_table g ≡ canonical_table h → canonical_index g ≡ canonical_index h → table_files name g ≡ table_files name h
unfolding file_of
files_alike name g h e f =
    ap (λ (bytes : List ℕ). file_of name bytes ∷ index_files name (canonical_index g)) e ∙ ap (λ (index : Option (List ℕ)). file_of name (canonical_table h) ∷ index_files name index) f

pub swapped_twice : Laws → SwappedTwiceIsCanonical
swapped_twice laws bytes g name out back are read done =
    let order = g.head.order in
    let t = turned g in
    let first = swap_over name out (table_of bytes) g read in
    let within = done_within out t (first_limit t) (subst (λ (a : Answer). a.verdict ≡ Done) first done) in
    let same = laws.writable bytes g order are read in
    let w : IsWritable g = record { sound = same.sound; fits = same.fits } in
    let none = sym (laws.limits g (other_order order)) ∙ within in
    let again = laws.read t (laws.writable bytes g (other_order order) are read) within in
    let table = laws.table g t (other_order order) w none again in
    let index = laws.index g t (other_order order) w none again in
    let second = swap_over out back (table_of (canonical_table t)) t again in
    let turn : turned t ≡ in_order order t = ap (λ (o : Order). in_order o t) (order_back order) in (
      first ∙ written_within out t (first_limit t) within,
      second ∙ ap (written_answer back) turn ∙ written_within back (in_order order t) (first_limit (in_order order t)) (laws.limits t order ∙ within) ∙ ap made_answer (files_alike back (in_order order t) g table index),
    )
