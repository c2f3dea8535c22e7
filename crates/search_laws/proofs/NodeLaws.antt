-- From the room for a search to the node that it lists, to each move of the node, and to the search
-- after the move.
use Rattle.std.proofs.Common.{◌≡◌, ℕ, ◌-◌, ◌≤◌, length, refl, sym, ap, subst, arith, ◌∙◌, Some}
use Rattle.std.specs.List.{slice_get}
use Rattle.hive_model.specs.declared.places.Move.{Move}
use Rattle.hive_model.specs.Legal.{moves}
use Rattle.hive_model.specs.Minimax.{IsInner}
use Rattle.hive_model.specs.Histories.{History, position, with_move}
use Rattle.hive_model.specs.Stack.{Levels, level_of, with_level}
use Rattle.search_laws.specs.Nodes.{HasRoom, IsNode, CanReply, AreAsBefore}
use Rattle.search_laws.proofs.LoopLaws.{on-at, level-in}
use Rattle.search_laws.proofs.HintLaws.{inner-here, moves-listed, here-in}

-- the legal moves were listed
pub node-listed : (start entered now : History) (old s : Levels) (d level : ℕ) → HasRoom d start old → IsInner (position start) d → entered ≡ start → now ≡ entered →
    s ≡ with_level old (moves (position entered)) → level ≡ length old.lists → IsNode d level now s
node-listed start entered now old s d level room inner same kept listed on =
    let all : now ≡ start = kept ∙ same in
    let whole : s ≡ with_level old (moves (position start)) = listed ∙ ap (λ (h : History). with_level old (moves (position h))) same in
    record {
      inner = inner-here start now d all inner;
      deep = room.deep;
      spare = omega (arith, ap (λ (h : History). h.spare) all, room.spare);
      free = omega (arith, ap (λ (l : Levels). l.free) whole, room.free);
      stands = level-in s old (moves (position start)) level whole on;
      listed = moves-listed start now s old s level all refl whole on;
    }

-- it is still a node if game and stack have not changed
pub node-again : (start now : History) (old s : Levels) (d level : ℕ) → IsNode d level start old → AreAsBefore start now old s → IsNode d level now s
node-again start now old s d level node same =
    subst (λ (h : History). IsNode d level h s) (sym same.game) (subst (λ (l : Levels). IsNode d level start l) (sym same.stack) node)

-- a move of the level is a legal move at the same place
pub node-at : (start : History) (old s : Levels) (d level i : ℕ) (m : Move) → IsNode d level start old → s ≡ old → slice_get (level_of s level) i ≡ Some m →
    slice_get (moves (position start)) i ≡ Some m
node-at start old s d level i m node same here = here-in s old level i (moves (position start)) m same node.listed here

-- which can be played
pub node-reply : (start now : History) (old s : Levels) (d level i : ℕ) (m : Move) → IsNode d level start old → AreAsBefore start now old s →
    slice_get (level_of s level) i ≡ Some m → CanReply m (d - 1) now s
node-reply start now old s d level i m node same here =
    let node' = node-again start now old s d level node same in
    record {
      legal = on-at (moves (position now)) i m (node-at now s s d level i m node' refl here);
      deep = omega (arith, node'.deep, node'.inner.deep);
      spare = omega (arith, node'.spare, node'.inner.deep);
      free = node'.free;
    }

-- the search after it has room
pub reply-room : (start played : History) (s : Levels) (m : Move) (d : ℕ) → CanReply m d start s → played ≡ with_move start m → HasRoom d played s
reply-room start played s m d can moved = record {
  deep = omega (arith, can.deep);
  spare = omega (arith, ap (λ (h : History). h.spare) moved, can.spare);
  free = can.free;
}

-- what is as it was twice is as it was
pub before-then : (a b c : History) (r s t : Levels) → AreAsBefore a b r s → AreAsBefore b c s t → AreAsBefore a c r t
before-then a b c r s t one two = record { game = two.game ∙ one.game; stack = two.stack ∙ one.stack }

-- there is room for fewer plies, if game and stack have not changed
pub room-within : (start now : History) (old s : Levels) (d n : ℕ) → n ≤ d → HasRoom d start old → AreAsBefore start now old s → HasRoom n now s
room-within start now old s d n fewer room same = record {
  deep = omega (arith, fewer, room.deep);
  spare = omega (arith, fewer, room.spare, ap (λ (h : History). h.spare) same.game);
  free = omega (arith, fewer, room.free, ap (λ (l : Levels). l.free) same.stack);
}
