-- What an error that no map was made says.
use Rattle.vpf_darts.specs.declared.darts.Dart.{Dart}
use Rattle.vpf_darts.specs.declared.maps.MapError.{MapError}
use Rattle.vpf_darts.specs.declared.maps.MapError.TheVariants.{NotPermutation, NoMemory}

-- a fact of the dart that is reported, if one is
abbrev pub IfNotPermutation : MapError → (Dart → Type 0) → Type 0
IfNotPermutation (NotPermutation e) P = P e.dart
IfNotPermutation NoMemory P = Unit {0}
