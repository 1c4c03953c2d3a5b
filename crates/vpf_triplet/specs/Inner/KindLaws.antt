-- Kinds and counts that are one.
use Rattle.std.proofs.Common.{◌≡◌, ℕ, true, length, refl, sym, ap}
use Rattle.std.proofs.lemmas.Bool.{false≢true, eqb-true}
use Rattle.vpf_triplet.specs.declared.kinds.Kind.{Kind}
use Rattle.vpf_triplet.specs.declared.kinds.Kind.TheVariants as kinds
use Rattle.vpf_triplet.specs.declared.kinds.Count.{Count}
use Rattle.vpf_triplet.specs.declared.kinds.Count.TheVariants.{Fixed, Star}
use Rattle.vpf_triplet.specs.Kinds.{is_fixed, kind_text, same_kind}

pub kinds_same : (a b : Kind) → same_kind a b ≡ true → a ≡ b
kinds_same kinds.T kinds.T h = refl
kinds_same kinds.L kinds.L h = refl
kinds_same kinds.M kinds.M h = refl
kinds_same kinds.N kinds.N h = refl
kinds_same kinds.F kinds.F h = refl
kinds_same kinds.R kinds.R h = refl
kinds_same kinds.S kinds.S h = refl
kinds_same kinds.I kinds.I h = refl
kinds_same kinds.D kinds.D h = refl
kinds_same kinds.X kinds.X h = refl
kinds_same kinds.K kinds.K h = refl
kinds_same kinds.C kinds.C h = refl
kinds_same kinds.B kinds.B h = refl
kinds_same kinds.Z kinds.Z h = refl
kinds_same kinds.Y kinds.Y h = refl
kinds_same a b h = absurd (false≢true h)

pub counts_same : (n : ℕ) (count : Count) → is_fixed n count ≡ true → count ≡ Fixed n
counts_same n (Fixed m) h = ap Fixed (sym (eqb-true n m h))
counts_same n Star h = absurd (false≢true h)

pub length-kind : (kind : Kind) → length (kind_text kind) ≡ 1
length-kind kinds.T = refl
length-kind kinds.L = refl
length-kind kinds.M = refl
length-kind kinds.N = refl
length-kind kinds.F = refl
length-kind kinds.R = refl
length-kind kinds.S = refl
length-kind kinds.I = refl
length-kind kinds.D = refl
length-kind kinds.X = refl
length-kind kinds.K = refl
length-kind kinds.C = refl
length-kind kinds.B = refl
length-kind kinds.Z = refl
length-kind kinds.Y = refl
