-- A game string has more bytes than its game has moves.
use Rattle.std.proofs.Common.{◌≡◌, ◌≤◌, ◌<◌, ℕ, ◌+◌, Bool, true, false, List, [], ◌∷◌, length, ap, subst, arith, inl, inr, codes, length-append, Some}
use Rattle.std.specs.Prelude.{Result, Ok, Err, nat_eq, if◌then◌else◌}
use Rattle.io_edge.specs.Outside.{Told}
use Rattle.hive_model.specs.declared.pieces.GameType.{GameType}
use Rattle.hive_model.specs.declared.places.Move.{Move}
use Rattle.hive_model.specs.Fields.{added, type_bytes}
use Rattle.io_edge.specs.Lines.{Text}
use Rattle.hive_model.specs.Lists.{onto}
use Rattle.hive_model.specs.Positions.{opening}
use Rattle.hive_model.specs.Strings.{parts, IsGameLine}
use Rattle.line_feed.specs.Feed.{Reading, Gives}
use Rattle.line_feed.proofs.PartLemmas.{text_fits}
use Rattle.game_text.specs.declared.faults.GameFault.{GameFault}
use Rattle.game_text.specs.declared.parsed.Parsed.{Parsed}
use Rattle.game_text.specs.Reading.{game_of}
use Rattle.game_text.proofs.LineLaws.{game_found}
use Rattle.game_text.proofs.OrderLaws.{denoted_size}
use Rattle.opening_book.specs.Book.{BookGame}
use Rattle.book_command.specs.Asked.{as_played}

-- a semicolon is before each part but the first
few_parts : (line : List ℕ) → length (parts line) ≤ length line + 1
unfolding parts
few_parts [] = omega arith
few_parts (b ∷ bs) = go (nat_eq b 59) (parts bs) (few_parts bs)
  where
    go : (t : Bool) (ps : List (List ℕ)) → length ps ≤ length bs + 1 → length (if t then [] ∷ ps else onto b ps) ≤ length (b ∷ bs) + 1
    go true ps h = omega (arith, h)
    go false [] h = omega arith
    go false (p ∷ ps) h = omega (arith, h)

type_long : (t : GameType) → 0 < length (type_bytes t)
type_long t =
    let e : length (type_bytes t) ≡ 4 + length (added t.mosquito t.ladybug t.pillbug) = length-append (codes "Base") (added t.mosquito t.ladybug t.pillbug) in
    omega (arith, e)

more_bytes : (line : List ℕ) (t : GameType) (ms : List Move) → IsGameLine line t ms → length ms < length line
more_bytes line t ms (inl (named, none)) =
    let some = type_long t in
    let e = ap length named in
    let n = ap length none in
    omega (arith, some, e, n)
more_bytes line t ms (inr full) =
    let few = few_parts line in
    let e = ap length full.parts_are in
    let n = denoted_size (opening t) full.rest ms full.denote in
    omega (arith, few, e, n)

-- the text of a game has more bytes than the game has moves
pub played_long : (text : List ℕ) (r : Result Parsed GameFault) (game : BookGame) → game_of text ≡ r → as_played r ≡ Some game → length game.made < length text
played_long text (Ok g) game e h =
    let same : record { game_type = g.game_type; made = g.moves } ≡ game = cc in
    subst (λ (p : BookGame). length p.made < length text) same (more_bytes text g.game_type g.moves (game_found text g e))
played_long text (Err fault) game e h = absurd (cc)

-- at least as many bytes pass as the line has that is given
pub passes_text : {old new : Reading} {bytes : List ℕ} {rest : Told} (text : List ℕ) → Gives old bytes (Text text) new rest → old.passed + length text ≤ new.passed
passes_text text gives =
    let (part, p) = gives.passes in
    let (short, less) = text_fits part text p.line in
    let c = p.counted in
    omega (arith, less, c)
