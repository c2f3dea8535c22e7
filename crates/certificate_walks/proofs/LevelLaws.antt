-- From a node to its legal moves on a level, and to each of them.
use Rattle.std.proofs.Common.{◌≡◌, ℕ, ◌-◌, sym, subst, arith, Some}
use Rattle.std.specs.List.{slice_get}
use Rattle.hive_model.specs.declared.places.Move.{Move}
use Rattle.hive_model.specs.Legal.{moves}
use Rattle.hive_model.specs.Histories.{History, position}
use Rattle.hive_model.specs.Stack.{Levels, level_of}
use Rattle.search_laws.specs.Nodes.{IsNode, CanReply, AreAsBefore}
use Rattle.search_laws.proofs.LoopLaws.{on-at}
use Rattle.search_laws.proofs.HintLaws.{here-in}
use Rattle.certificate_walks.specs.Claims.{HasReplies}

-- there is room for each move of a node
pub node-replies : (start : History) (s : Levels) (d level : ℕ) → IsNode d level start s → HasReplies (d - 1) level start s
node-replies start s d level node = record {
  deep = omega (arith, node.deep, node.inner.deep);
  spare = omega (arith, node.spare, node.inner.deep);
  free = node.free;
  stands = node.stands;
  listed = node.listed;
}

-- this still holds if game and stack are as before
pub replies-again : (start now : History) (old s : Levels) (d level : ℕ) → HasReplies d level start old → AreAsBefore start now old s → HasReplies d level now s
replies-again start now old s d level replies same =
    subst (λ (h : History). HasReplies d level h s) (sym same.game) (subst (λ (l : Levels). HasReplies d level start l) (sym same.stack) replies)

-- the move at a place of the list can be played
pub place-reply : (start : History) (s : Levels) (d level i : ℕ) (m : Move) → HasReplies d level start s → slice_get (moves (position start)) i ≡ Some m → CanReply m d start s
place-reply start s d level i m replies here = record {
  legal = on-at (moves (position start)) i m here;
  deep = replies.deep;
  spare = replies.spare;
  free = replies.free;
}

-- this still holds if game and stack are as before
pub can-again : (start now : History) (old s : Levels) (m : Move) (d : ℕ) → CanReply m d start old → AreAsBefore start now old s → CanReply m d now s
can-again start now old s m d can same =
    subst (λ (h : History). CanReply m d h s) (sym same.game) (subst (λ (l : Levels). CanReply m d start l) (sym same.stack) can)

-- the same for a move that is read from the level
pub level-reply : (start now : History) (old s : Levels) (d level i : ℕ) (m : Move) → HasReplies d level start old → AreAsBefore start now old s →
    slice_get (level_of s level) i ≡ Some m → CanReply m d now s
level-reply start now old s d level i m replies same here =
    can-again start now old s m d (place-reply start old d level i m replies (here-in s old level i (moves (position start)) m same.stack replies.listed here)) same
