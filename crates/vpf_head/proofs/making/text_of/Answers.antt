use Rattle.std.proofs.Common.{◌≡◌, ℕ, List, [], ◌∷◌, ◌++◌, append_assoc}
use Rattle.vpf_head.specs.Bytes.{semicolon}
use Rattle.vpf_head.specs.Canonical.{canonical_text}
use Rattle.vpf_head.proofs.making.text_of.Goals as goal

joined : (o o1 o2 o3 m d n c : List ℕ) → o ≡ [] → o1 ≡ o ++ (m ++ (d ++ semicolon ∷ (n ++ semicolon ∷ []))) → o2 ≡ o1 ++ c → o3 ≡ o2 ++ ([] ++ semicolon ∷ [])
    → o3 ≡ m ++ (d ++ semicolon ∷ (n ++ semicolon ∷ (c ++ semicolon ∷ [])))
joined o o1 o2 o3 m d n c e e1 e2 e3 = rw (e3, e2, e1, e) (simp append_assoc)

pub returns : goal.returns
unfolding canonical_text
returns c = joined _ _ _ _ _ _ _ _ c.new-text.ensures.items c.in_ok-put_start.ensures.ok c.in_ok-put_each.ensures.ok c.in_ok-put_item.ensures.ok
