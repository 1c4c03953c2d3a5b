-- Bytes that come or go in pieces.
use Rattle.std.proofs.Common.{◌≡◌, ℕ, ◌+◌, ◌≤◌, List, ◌++◌, length, take, drop, Option, None, Some, Ok, ap, ◌∙◌, append_assoc, sym, arith, length-take-le}
use Rattle.std.proofs.Math.Seq.{take-add, take-append-add}
use Rattle.std.proofs.lemmas.List.{take-append-le}
use Rattle.std.specs.Io.KnownBytes.{Appends}
use Rattle.std.specs.Prelude.{IfSome}
use borrow.Rule.Slice.PartMut.{put_mid, post_of}
use Rattle.vpf_source.specs.Files.{Files, ReadsFile, bytes_of}
use Rattle.vpf_source.specs.declared.error.Failed.{Failed}

-- the first n bytes of the buffer are the file's
pub record IsFront (file : List ℕ) (n : ℕ) (buf : List ℕ) : Type 0 where
  pub within : n ≤ length file
  pub same : take n buf ≡ take n file

-- the same of the named file, where it is told
abbrev pub IsFrontOf : Option Files → List ℕ → ℕ → List ℕ → Type 0
IsFrontOf told name n buf = IfSome told (λ files. IsFront (bytes_of (files name)) n buf)

-- a part of the buffer was written behind the first d bytes: n bytes more
take-put : (d k n : ℕ) (buf part : List ℕ) → d ≤ length buf → n ≤ length part → take (d + n) (put_mid d k buf part) ≡ take d buf ++ take n part
take-put d k n buf part within few =
    let front : length (take d buf) ≡ d = length-take-le d buf within in
    ap (λ (i : ℕ). take (i + n) (put_mid d k buf part)) (sym front) ∙ take-append-add (take d buf) (part ++ post_of d k buf) n
    ∙ ap (λ (s : List ℕ). take d buf ++ s) (take-append-le n part (post_of d k buf) few)

-- behind the file's first d bytes, n more were read
pub reads_on : (told : Option Files) (name : List ℕ) (d k n : ℕ) (buf part : List ℕ) → d ≤ length buf → n ≤ length part → IsFrontOf told name d buf → ReadsFile {E = Failed} told name d (Ok n) part → IsFrontOf told name (d + n) (put_mid d k buf part)
reads_on None name d k n buf part within few p q = tt
reads_on (Some files) name d k n buf part within few p q =
    let file = bytes_of (files name) in
    record {
      within = omega (arith, p.within, q.within);
      same = take-put d k n buf part within few ∙ ap (λ (s : List ℕ). s ++ take n part) p.same ∙ ap (λ (s : List ℕ). take d file ++ s) q.same
          ∙ sym (take-add d n file);
    }

-- after the first d bytes, n more
pub goes_on : (old mid new : Option (List ℕ)) (d n : ℕ) (bytes : List ℕ) → Appends old mid (take d bytes) → Appends mid new (take n (drop d bytes)) → Appends old new (take (d + n) bytes)
goes_on None mid new d n bytes p q = tt
goes_on (Some xs) None new d n bytes p q = absurd p
goes_on (Some xs) (Some ys) None d n bytes p q = absurd q
goes_on (Some xs) (Some ys) (Some zs) d n bytes p q = q ∙ ap (λ s. s ++ take n (drop d bytes)) p ∙ append_assoc xs _ _ ∙ ap (λ s. xs ++ s) (sym (take-add d n bytes))
