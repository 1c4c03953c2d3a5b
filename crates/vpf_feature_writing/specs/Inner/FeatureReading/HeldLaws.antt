-- Files that are made one after another, and held so by a tree.
use Rattle.std.proofs.Common.{◌≡◌, Result, Ok, Err}

pub ok_is : {X Y : Type 0} (x y : X) → ◌≡◌ {A = Result X Y} (Ok x) (Ok y) → x ≡ y
ok_is x y e = cc

pub no_ok : {X Y : Type 0} (x : X) (error : Y) → ◌≡◌ {A = Result X Y} (Err error) (Ok x) → ⊥
no_ok x error e = cc
