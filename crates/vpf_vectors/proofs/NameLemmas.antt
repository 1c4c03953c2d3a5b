-- The names of tiles in the width of their column.
use Rattle.std.proofs.Common.{[], ◌≡◌, ℕ, zero, suc, ◌-◌, ◌^◌, List, ◌∷◌, ◌++◌, length, false, refl, ap, ◌∙◌, arith}
use Rattle.std.specs.Prelude.{Result, IfOk, replicate}
use Rattle.std.specs.List.{repeat}
use Rattle.std.specs.Fmt.{decimal, format_spec, padded_integral, char_count}
use Rattle.std.proofs.lemmas.Result.{IfOk-weaker}
use Rattle.vpf_head.specs.Bytes.{space}
use Rattle.vpf_vectors.specs.Tables.{padded_name}

spaces : (n : ℕ) → repeat n (space ∷ []) ≡ replicate n space
spaces zero = refl
spaces (suc n) = ap (λ s. space ∷ s) (spaces n)

-- a number to the left, in seven bytes
padded_number : (k : ℕ) → padded_integral (format_spec 32 1 0 7 (2 ^ 64 - 1)) false [] (decimal k) ≡ decimal k ++ replicate (7 - length (decimal k)) space
unfolding padded_integral char_count lib.Utf8.encode
padded_number k =
    let e : 7 - length (decimal k) - 0 - 0 - 0 ≡ 7 - length (decimal k) = omega arith in
    ap (λ n. decimal k ++ repeat n (space ∷ [])) e ∙ ap (λ t. decimal k ++ t) (spaces (7 - length (decimal k)))

-- a name as it is printed
name_is_padded : (k : ℕ) → 116 ∷ (decimal k ++ replicate (7 - length (decimal k)) space) ≡ padded_name k
name_is_padded k =
    let e : 7 - length (decimal k) ≡ 8 - suc (length (decimal k)) = omega arith in
    ap (λ n. 116 ∷ (decimal k ++ replicate n space)) e

-- what is printed so is the name
pub padded_from_printed : {X E : Type 0} (r : Result X E) (bytes : X → List ℕ) (k : ℕ)
    → IfOk r (λ x. bytes x ≡ 116 ∷ padded_integral (format_spec 32 1 0 7 (2 ^ 64 - 1)) false [] (decimal k)) → IfOk r (λ x. bytes x ≡ padded_name k)
padded_from_printed r bytes k h =
    IfOk-weaker r (λ x. bytes x ≡ 116 ∷ padded_integral (format_spec 32 1 0 7 (2 ^ 64 - 1)) false [] (decimal k)) (λ x. bytes x ≡ padded_name k)
    (λ x e. e ∙ ap (λ t. 116 ∷ t) (padded_number k) ∙ name_is_padded k) h
