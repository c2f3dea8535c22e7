-- The keys that are stored while a game is played.
use Rattle.std.specs.Prelude.{◌≡◌, Bool, List, [], if◌then◌else◌}
use Rattle.hive_model.specs.Keys.{KeyParts}
use Rattle.hive_model.specs.Histories.{History}
use Rattle.hive_model.specs.Repetition.{keys}
use Rattle.game_text.specs.declared.seen.Seen.{Seen}

-- With the rule of third repetition on, the keys of all positions of the game. With the rule off,
-- none.
abbrev pub keys_kept : Bool → History → List KeyParts
keys_kept r c = if r then keys c.game_type c.made else []

abbrev pub Sees : Seen → History → Type 0
Sees s c = s.keys ≡ keys_kept s.repetition c
