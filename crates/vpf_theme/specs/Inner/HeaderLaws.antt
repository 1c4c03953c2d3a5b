-- A header is spelled exactly where it is read.
use Rattle.std.proofs.Common.{◌≡◌, List, length, refl, ℕ, Option, Some, None, Ok, ap, get_or, Result}
use Rattle.vpf_theme.specs.declared.layout.Form.{Form}
use Rattle.vpf_theme.specs.declared.layout.Form.TheVariants as forms
use Rattle.vpf_theme.specs.Layouts.{form_text, row_size_text, asked, is_sorted_mark, u32_at, allowed_count, row_size_of}
use Rattle.vpf_theme.specs.declared.layout.RowSize.{RowSize}
use Rattle.vpf_theme.specs.declared.layout.RowSize.TheVariants as sizes
use Rattle.vpf_triplet.specs.declared.places.Code.{Code}
use Rattle.vpf_base.proofs.Results.{done}
use Rattle.vpf_base.specs.declared.orders.Order.{Order}
use Rattle.vpf_triplet.specs.declared.kinds.Kind.{Kind}
use Rattle.vpf_triplet.specs.declared.places.Place.{Place}
use Rattle.vpf_theme.specs.declared.layout.Layout.{Layout}
use Rattle.vpf_base.specs.Results.{◌>>=◌}
use Rattle.vpf_triplet.specs.declared.places.Code.TheVariants as codes

pub length-form : (form : Form) → length (form_text form) ≡ 1
length-form forms.List = refl
length-form forms.Bitmap = refl

pub length-size : (size : RowSize) → length (row_size_text size) ≡ 1
length-size sizes.Short = refl
length-size sizes.Long = refl

pub asked_some : {X : Type 0} (at : ℕ) (code : Code) (o : Option X) (x : X) → asked at code o ≡ Ok x → o ≡ Some x
asked_some at code None x e = absurd (cc e)
asked_some at code (Some y) x e = let k : y ≡ x = cc e in ap (λ z. Some z) k

abbrev pub layout_with : Order → List ℕ → Form → Kind → ℕ → RowSize → Layout
layout_with o bytes form kind count size = record { order = o; form = form; kind = kind; count = count; row_size = size; rows = u32_at o bytes 8; entries = u32_at o bytes 4; sorted = is_sorted_mark (get_or bytes 56 0) }

abbrev pub from_size : Order → List ℕ → Form → Kind → ℕ → RowSize → Result Layout Place
from_size o bytes form kind count size = done (layout_with o bytes form kind count size)

abbrev pub from_count : Order → List ℕ → Form → Kind → ℕ → Result Layout Place
from_count o bytes form kind count = asked 18 codes.ThemeRowtype (row_size_of (get_or bytes 18 0)) >>= from_size o bytes form kind count

abbrev pub from_kind : Order → List ℕ → Form → Kind → Result Layout Place
from_kind o bytes form kind = asked 14 codes.ThemeCount (allowed_count kind (u32_at o bytes 14)) >>= from_count o bytes form kind
