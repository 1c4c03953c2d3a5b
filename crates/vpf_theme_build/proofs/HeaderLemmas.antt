-- The header that is written is one of its layout.
use Rattle.std.proofs.Common.{[], ◌≡◌, ℕ, ◌^◌, ◌<◌, true, List, ◌∷◌, ◌++◌, length, drop, append_assoc, refl, ◌∙◌, inr, arith}
use Rattle.std.specs.Int.{w32}
use Rattle.std.proofs.lemmas.List.{length-append, length-take-le}
use Rattle.vpf_triplet.specs.Inner.KindLaws.{length-kind}
use Rattle.vpf_triplet.specs.Kinds.{kind_text}
use Rattle.vpf_base.specs.Numbers.{number}
use Rattle.vpf_theme.specs.declared.layout.Layout.{Layout}
use Rattle.vpf_theme.specs.Layouts.{directory_end, form_text, row_size_text}
use Rattle.vpf_theme.specs.Spelling.{IsThemeHeader}
use Rattle.vpf_theme.specs.Inner.PieceLaws.{after, length-u32, piece_inside}
use Rattle.vpf_theme_build.specs.Text.{header_text, spaced}
use Rattle.vpf_theme_build.proofs.TextLemmas.{length-spaces, spaces}
use Rattle.vpf_theme.specs.Inner.HeaderLaws.{length-form, length-size}

-- ---- lengths

length-spaced : (n : ℕ) (name : List ℕ) → length (spaced n name) ≡ n
length-spaced n name = length-take-le n (name ++ spaces n) (omega (arith, length-append name (spaces n), length-spaces n))

-- ---- fields

-- the fields of the header hold their numbers
pub record IsStored (l : Layout) : Type 0 where
  pub sorted : l.sorted ≡ true
  pub rows : l.rows < 2 ^ 32
  pub entries : l.entries < 2 ^ 32
  pub size : directory_end l < 2 ^ 32
  pub count : l.count < 2 ^ 32

grouped : (a b c d e f g h i j k rest : List ℕ) → ((((((((((a ++ b) ++ c) ++ d) ++ e) ++ f) ++ g) ++ h) ++ i) ++ j) ++ k) ++ rest ≡ a ++ (b ++ (c ++ (d ++ (e ++ (f ++ (g ++ (h ++ (i ++ (j ++ (k ++ rest))))))))))
grouped a b c d e f g h i j k rest = simp append_assoc

-- a header, and the directory behind it
pub record IsFront (l : Layout) (bytes rest : List ℕ) : Type 0 where
  pub header : IsThemeHeader l bytes
  pub directory : drop 60 bytes ≡ rest

pub front_stands : (l : Layout) (bytes table column rest : List ℕ) → IsStored l → bytes ≡ header_text l table column ++ rest → IsFront l bytes rest
front_stands l bytes table column rest s e =
    let o = l.order in
    let last : List ℕ = 83 ∷ [] in
    let unused : List ℕ = 0 ∷ 0 ∷ 0 ∷ [] in
    let p0 : drop 0 bytes ≡ _ = e ∙ grouped (number o w32 (directory_end l)) (number o w32 l.entries) (number o w32 l.rows) (form_text l.form) (kind_text l.kind) (number o w32 l.count) (row_size_text l.row_size) (spaced 12 table) (spaced 25 column) last unused rest in
    let p1 = after bytes _ _ 0 4 (length-u32 o (directory_end l)) p0 in
    let p2 = after bytes _ _ 4 4 (length-u32 o l.entries) p1 in
    let p3 = after bytes _ _ 8 4 (length-u32 o l.rows) p2 in
    let p4 = after bytes _ _ 12 1 (length-form l.form) p3 in
    let p5 = after bytes _ _ 13 1 (length-kind l.kind) p4 in
    let p6 = after bytes _ _ 14 4 (length-u32 o l.count) p5 in
    let p7 = after bytes _ _ 18 1 (length-size l.row_size) p6 in
    let p8 = after bytes _ _ 19 12 (length-spaced 12 table) p7 in
    let p9 = after bytes _ _ 31 25 (length-spaced 25 column) p8 in
    let p10 = after bytes last (unused ++ rest) 56 1 refl p9 in
    let long = piece_inside bytes unused 57 (omega arith) (rest, p10) in
    record {
      header = record {
        long = long;
        size = inr (s.size, (_, p0));
        entries = (s.entries, (_, p1));
        rows = (s.rows, (_, p2));
        form = (_, p3);
        kind = (_, p4);
        count = (s.count, (_, p5));
        row_size = (_, p6);
        sorted = (λ h. (_, p9), λ h. s.sorted);
      };
      directory = after bytes unused rest 57 3 refl p10;
    }
