-- A number for bytes.
use Rattle.std.specs.Prelude.{ℕ, ◌+◌, ◌*◌, ◌%◌, ◌^◌, List, [], ◌∷◌}
use Rattle.vpf_source.specs.declared.file.File.{File}

-- each byte in turn is added to 31 times what is there, modulo 2^32
abbrev pub digest_after : ℕ → List ℕ → ℕ
digest_after d [] = d
digest_after d (b ∷ bytes) = digest_after ((31 * d + b) % 2 ^ 32) bytes

-- the same over the bytes of files, file after file
abbrev pub digest_of_files : ℕ → List File → ℕ
digest_of_files d [] = d
digest_of_files d (file ∷ files) = digest_of_files (digest_after d file.bytes) files

-- the digest of files and of a text behind them
abbrev pub digest : List File → List ℕ → ℕ
digest files text = digest_after (digest_of_files 0 files) text
