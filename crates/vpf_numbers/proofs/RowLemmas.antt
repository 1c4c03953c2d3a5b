-- What rows say, kept one after another.
use Rattle.std.proofs.Common.{◌≡◌, ◌∙◌, List, [], ◌∷◌, ◌++◌, append_assoc, map, ap, sym}

-- one more is kept
pub said_more : {R E : Type 0} (says : R → E) (said more : List E) (here : E) (row : R) (rows rest : List R) (whole : List E)
    → rows ≡ row ∷ rest → more ≡ said ++ here ∷ [] → here ≡ says row → said ++ map says rows ≡ whole → more ++ map says rest ≡ whole
said_more {R} {E} says said more here row rows rest whole steps pushed is left =
    ap (λ (xs : List E). xs ++ map says rest) (pushed ∙ ap (λ (x : E). said ++ x ∷ []) is)
    ∙ append_assoc said (says row ∷ []) (map says rest)
    ∙ sym (ap (λ (xs : List R). said ++ map says xs) steps)
    ∙ left
