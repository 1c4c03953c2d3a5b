-- A map of files by name, with one file put.
use Rattle.std.proofs.Common.{◌≡◌, ℕ, List, Bool, true, false, Some, Option, IfSome, Result, Ok, Err, OnOk, OnErr, subst, sym, string_bytes}
use Rattle.std.specs.Bool.{if◌then◌else◌}
use Rattle.std.specs.BTreeMap.{BTreeMap, IsUnchanged, Updates, get_by_text}
use Rattle.std.specs.String.{string_cmp}
use Rattle.std.specs.Str.{bytes_eq}
use Rattle.std.specs.declared.string.String.{String}
use Rattle.std.proofs.lemmas.Map.Text.{btree_map_updates_text}
use Rattle.vpf_base.specs.Bytes.{IsBytes}
use Rattle.vpf_source.specs.Files.{HoldsBytes}

-- after an insert, the files are the old ones with the one of the key's text
pub inserted : {Y : Type 0} (name bytes : List ℕ) (key : String Y) (m n : BTreeMap (String Y) (List ℕ)) → string_bytes key ≡ name → Updates string_cmp m n key (Some bytes) → (other : List ℕ) → get_by_text n other ≡ (if bytes_eq name other then Some bytes else get_by_text m other)
inserted name bytes key m n e h other =
    subst (λ (text : List ℕ). get_by_text n other ≡ (if bytes_eq text other then Some bytes else get_by_text m other)) e (btree_map_updates_text (string_bytes key) m n (Some bytes) h other)

-- one of two files that are of bytes, if the other is there
either : (takes : Bool) (bytes : List ℕ) (held : Option (List ℕ)) → IsBytes bytes → IfSome held IsBytes → IfSome (if takes then Some bytes else held) IsBytes
either true bytes held new old = new
either false bytes held new old = old

-- after an insert of bytes, whether there was memory for it or not, files of bytes are of bytes
pub still_bytes : {Y V E : Type 0} (name bytes : List ℕ) (key : String Y) (m n : BTreeMap (String Y) (List ℕ)) (result : Result V E) → string_bytes key ≡ name
    → OnOk result (Updates string_cmp m n key (Some bytes)) → OnErr result (IsUnchanged m n) → HoldsBytes (get_by_text m) → IsBytes bytes → HoldsBytes (get_by_text n)
still_bytes name bytes key m n (Ok v) e updates stood held new other =
    subst (λ (file : Option (List ℕ)). IfSome file IsBytes) (sym (inserted name bytes key m n e updates other))
    (either (bytes_eq name other) bytes (get_by_text m other) new (held other))
still_bytes name bytes key m n (Err x) e updates stood held new other = rw (sym stood) at (held other)
