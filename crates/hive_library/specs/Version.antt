-- The name and version of the library.
use Rattle.std.specs.Prelude.{ℕ, List, codes}

abbrev pub version : List ℕ
version = codes "HiveReferee 1.0"
