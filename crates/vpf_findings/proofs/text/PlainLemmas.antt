-- Bytes that are all printed as themselves.
use Rattle.std.proofs.Common.{◌≡◌, ℕ, true, List, [], ◌∷◌, refl}
use Rattle.std.specs.List.{list_all}
use Rattle.vpf_base.proofs.Booleans.{both}
use Rattle.vpf_findings.specs.Text.Bytes.{is_plain, printed, printed_byte}

plain_byte : (b : ℕ) → is_plain b ≡ true → printed_byte b ≡ b ∷ []
plain_byte b e = rw e refl

pub printed_plain : (bytes : List ℕ) → list_all is_plain bytes ≡ true → printed bytes ≡ bytes
printed_plain [] e = refl
printed_plain (b ∷ bytes) e =
    let k = both (is_plain b) (list_all is_plain bytes) e in
    rw (plain_byte b k.0, printed_plain bytes k.1) refl
