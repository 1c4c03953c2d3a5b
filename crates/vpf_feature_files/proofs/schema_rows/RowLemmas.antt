-- Rows that are said one after another.
use Rattle.std.proofs.Common.{◌≡◌, ◌∙◌, List, [], ◌∷◌, ◌++◌, map, ap, sym}
use Rattle.std.proofs.lemmas.List.{map-append, append_assoc}

-- one more row is said, by an item of the code
pub said_more : {R S E : Type 0} (view : S → E) (said : R → E) (xs more : List S) (x : S) (row : R) (rows rest : List R) (whole : List E)
    → more ≡ xs ++ x ∷ [] → view x ≡ said row → rows ≡ row ∷ rest → map view xs ++ map said rows ≡ whole → map view more ++ map said rest ≡ whole
said_more {R} {S} view said xs more x row rows rest whole pushed is steps done =
    rw (pushed, map-append view xs (x ∷ []), append_assoc, is) (sym (ap (λ (v : List R). map view xs ++ map said v) steps) ∙ done)
