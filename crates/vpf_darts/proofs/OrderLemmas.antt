-- The order of darts is that of their numbers.
use Rattle.std.proofs.Common.{◌≡◌, ℕ, ◌^◌, ◌<◌, sym, inl, inr, arith}
use Rattle.std.proofs.lemmas.Bool.{cases_lt, cases_Bool}
use Rattle.std.specs.declared.cmp.Ordering.TheVariants.{Less, Equal, Greater}
use Rattle.std.specs.Ordering.{nat_cmp, bool_cmp, ordering_then}
use Rattle.std.specs.Cmp.{nat_cmp_is}
use Rattle.vpf_darts.specs.declared.darts.TileDart.{TileDart}
use Rattle.vpf_darts.specs.Darts.{code, tile_dart_code}
use Rattle.vpf_darts.proofs.DartLemmas.{sign_of-le}

pub nat_cmp-lt : (x y : ℕ) → x < y → nat_cmp x y ≡ Less
nat_cmp-lt x y h = sym (nat_cmp_is x y Less h)

pub nat_cmp-gt : (x y : ℕ) → y < x → nat_cmp x y ≡ Greater
nat_cmp-gt x y h = sym (nat_cmp_is x y Greater h)

pub nat_cmp-eq : (x y : ℕ) → x ≡ y → nat_cmp x y ≡ Equal
nat_cmp-eq x y h = sym (nat_cmp_is x y Equal h)

pub same_edge : (c d : TileDart) → c.tile ≡ d.tile → c.edge ≡ d.edge → bool_cmp c.minus d.minus ≡ nat_cmp (tile_dart_code c) (tile_dart_code d)
unfolding code
same_edge c d tile edge = elim (cases_Bool c.minus) [
  | inl t ↦ elim (cases_Bool d.minus) [
    | inl u ↦ rw (t, u) (sym (nat_cmp-eq (code c.tile c.edge 1) (code d.tile d.edge 1) (omega arith)))
    | inr f ↦ rw (t, f) (sym (nat_cmp-gt (code c.tile c.edge 1) (code d.tile d.edge 0) (omega arith)))
  ]
  | inr g ↦ elim (cases_Bool d.minus) [
    | inl u ↦ rw (g, u) (sym (nat_cmp-lt (code c.tile c.edge 0) (code d.tile d.edge 1) (omega arith)))
    | inr f ↦ rw (g, f) (sym (nat_cmp-eq (code c.tile c.edge 0) (code d.tile d.edge 0) (omega arith)))
  ]
]

pub same_tile : (c d : TileDart) → c.tile ≡ d.tile → ordering_then (nat_cmp c.edge d.edge) (bool_cmp c.minus d.minus) ≡ nat_cmp (tile_dart_code c) (tile_dart_code d)
unfolding code
same_tile c d tile =
    let s = sign_of-le c.minus in
    let t = sign_of-le d.minus in
    elim (cases_lt c.edge d.edge) [
      | inl lt ↦ rw (nat_cmp-lt c.edge d.edge lt) (sym (nat_cmp-lt (tile_dart_code c) (tile_dart_code d) (omega arith)))
      | inr ge ↦ elim (cases_lt d.edge c.edge) [
        | inl gt ↦ rw (nat_cmp-gt c.edge d.edge gt) (sym (nat_cmp-gt (tile_dart_code c) (tile_dart_code d) (omega arith)))
        | inr le ↦ (let e : c.edge ≡ d.edge = omega arith in rw (nat_cmp-eq c.edge d.edge e) (same_edge c d tile e))
      ]
    ]

pub numbers_keep_order : (c d : TileDart) → c.edge < 2 ^ 32 → d.edge < 2 ^ 32 → ordering_then (nat_cmp c.tile d.tile) (ordering_then (nat_cmp c.edge d.edge) (bool_cmp c.minus d.minus)) ≡ nat_cmp (tile_dart_code c) (tile_dart_code d)
unfolding code
numbers_keep_order c d hc hd =
    let s = sign_of-le c.minus in
    let t = sign_of-le d.minus in
    elim (cases_lt c.tile d.tile) [
      | inl lt ↦ rw (nat_cmp-lt c.tile d.tile lt) (sym (nat_cmp-lt (tile_dart_code c) (tile_dart_code d) (omega arith)))
      | inr ge ↦ elim (cases_lt d.tile c.tile) [
        | inl gt ↦ rw (nat_cmp-gt c.tile d.tile gt) (sym (nat_cmp-gt (tile_dart_code c) (tile_dart_code d) (omega arith)))
        | inr le ↦ (let e : c.tile ≡ d.tile = omega arith in rw (nat_cmp-eq c.tile d.tile e) (same_tile c d e))
      ]
    ]
