-- The test for equal values tells them.
use Rattle.std.proofs.Common.{◌≡◌, ℕ, Bool, true, false, ◌&&◌, nat_eq, Option, Some, None, refl, ap, ◌∙◌}
use Rattle.std.specs.Prelude.{Decides, bytes_eq}
use Rattle.std.specs.Option.{option_eq}
use Rattle.std.specs.Ordering.{int_eq}
use Rattle.std.proofs.lemmas.Bool.{false≢true}
use Rattle.std.proofs.lemmas.Bool.Decides.{Decides-eqb, Decides-int_eq, Decides-and, Decides-like}
use Rattle.std.proofs.lemmas.Slice.Eq.{bytes_eq-Decides}
use Rattle.vpf_triplet.specs.declared.triplets.Triplet.{Triplet}
use Rattle.vpf_value.specs.declared.coords.WordWidth.{WordWidth}
use Rattle.vpf_value.specs.declared.coords.WordWidth.TheVariants.{Four, Eight}
use Rattle.vpf_value.specs.Values.{Value, TextOf, Word4Of, Word8Of, NumberOf, DateOf, Nothing, TripletOf, WordsOf}
use Rattle.vpf_theme.specs.Ordering.{same_value, same_triplet, same_width}

Decides-option : (a b : Option ℕ) → Decides (option_eq nat_eq a b) (a ≡ b)
Decides-option None None = (λ e. refl, λ e. refl)
Decides-option None (Some b) = (λ e. absurd (false≢true e), λ e. absurd cc)
Decides-option (Some a) None = (λ e. absurd (false≢true e), λ e. absurd cc)
Decides-option (Some a) (Some b) = Decides-like (nat_eq a b) (λ e. ap (λ (n : ℕ). Some n) e) (λ e. cc) (Decides-eqb a b)

abbrev triplet_with : Option ℕ → Option ℕ → Option ℕ → Triplet
triplet_with id tile ext = record { id = id; tile = tile; ext = ext }

triplet_of : (a b : Triplet) → a.id ≡ b.id → a.tile ≡ b.tile → a.ext ≡ b.ext → a ≡ b
triplet_of a b x y z = ap (λ (v : Option ℕ). triplet_with v a.tile a.ext) x ∙ ap (λ (v : Option ℕ). triplet_with b.id v a.ext) y ∙ ap (λ (v : Option ℕ). triplet_with b.id b.tile v) z

Decides-triplet : (a b : Triplet) → Decides (same_triplet a b) (a ≡ b)
Decides-triplet a b =
    Decides-like {P = ((a.id ≡ b.id) × (a.tile ≡ b.tile)) × (a.ext ≡ b.ext)} (same_triplet a b) (λ e. triplet_of a b e.0.0 e.0.1 e.1) (λ e. ((ap (λ (t : Triplet). t.id) e, ap (λ (t : Triplet). t.tile) e), ap (λ (t : Triplet). t.ext) e))
    (Decides-and (option_eq nat_eq a.id b.id && option_eq nat_eq a.tile b.tile) (option_eq nat_eq a.ext b.ext) (Decides-and (option_eq nat_eq a.id b.id) (option_eq nat_eq a.tile b.tile) (Decides-option a.id b.id) (Decides-option a.tile b.tile)) (Decides-option a.ext b.ext))

Decides-width : (a b : WordWidth) → Decides (same_width a b) (a ≡ b)
Decides-width Four Four = (λ e. refl, λ e. refl)
Decides-width Eight Eight = (λ e. refl, λ e. refl)
Decides-width Four Eight = (λ e. absurd (false≢true e), λ e. absurd cc)
Decides-width Eight Four = (λ e. absurd (false≢true e), λ e. absurd cc)

pub Decides-same_value : (a b : Value) → Decides (same_value a b) (a ≡ b)
Decides-same_value (TextOf a) (TextOf b) = Decides-like (bytes_eq a b) (λ e. ap TextOf e) (λ e. cc) (bytes_eq-Decides a b)
Decides-same_value (Word4Of a) (Word4Of b) = Decides-like (nat_eq a b) (λ e. ap Word4Of e) (λ e. cc) (Decides-eqb a b)
Decides-same_value (Word8Of a) (Word8Of b) = Decides-like (nat_eq a b) (λ e. ap Word8Of e) (λ e. cc) (Decides-eqb a b)
Decides-same_value (NumberOf a) (NumberOf b) = Decides-like (int_eq a b) (λ e. ap NumberOf e) (λ e. cc) (Decides-int_eq a b)
Decides-same_value (DateOf a) (DateOf b) = Decides-like (bytes_eq a b) (λ e. ap DateOf e) (λ e. cc) (bytes_eq-Decides a b)
Decides-same_value Nothing Nothing = (λ e. refl, λ e. refl)
Decides-same_value (TripletOf a) (TripletOf b) = Decides-like (same_triplet a b) (λ e. ap TripletOf e) (λ e. cc) (Decides-triplet a b)
Decides-same_value (WordsOf w a) (WordsOf v b) =
    Decides-like {P = (w ≡ v) × (a ≡ b)} (same_width w v && bytes_eq a b) (λ e. let x = e.0 in let y = e.1 in cc) (λ e. (cc, cc)) (Decides-and (same_width w v) (bytes_eq a b) (Decides-width w v) (bytes_eq-Decides a b))
Decides-same_value a b = (λ e. absurd (false≢true e), λ e. absurd cc)

pub same_yes : (a b : Value) → a ≡ b → same_value a b ≡ true
same_yes a b e = (Decides-same_value a b).1 e

pub same_no : (a b : Value) → (a ≡ b → ⊥) → same_value a b ≡ false
same_no a b ne = off (same_value a b) (λ e. ne ((Decides-same_value a b).0 e))
  where
    off : (t : Bool) → (t ≡ true → ⊥) → t ≡ false
    off true h = absurd (h refl)
    off false h = refl
