-- Runs as lists of events: playing any list of events from a plant of a run gives a run.
-- Assumes nothing.
use Rattle.std.specs.Prelude.{◌≡◌, Bool, true, false, ℕ, eqb, length}
use Rattle.std.proofs.Math.Path.{refl}
use mathlib.Core.List.Memᴰ
use mathlib.Core.List.{List, [], ◌∷◌}
use Rattle.std.specs.Prelude.{Option, None, Some}
use Rattle.messages.specs.Message.{Request, Message}
use Rattle.agreement.specs.Members.{In}
use Rattle.agreement.specs.Plant.{Frame, Plant, hear, tick, arriving, Run, delivers, requests, ticks}
use Rattle.agreement.specs.Places.{none_not_some}

-- ---- the things of a list that has the latest first, numbered from 0 as they came

abbrev pub pick : {A : Type 0} → Bool → A → Option A → Option A
pick true x rest = Some x
pick false x rest = rest

unfoldable pub nth : {A : Type 0} → ℕ → List A → Option A
nth n [] = None
nth n (x ∷ l) = pick (eqb (length l) n) x (nth n l)

pub nth_in : {A : Type 0} (n : ℕ) (l : List A) (a : A) → nth n l ≡ Some a → In a l
unfolding nth
nth_in n [] a e = absurd (none_not_some e)
nth_in n (x ∷ l) a e = go (eqb (length l) n) e (nth_in n l a)
  where
    go : (b : Bool) → pick b x (nth n l) ≡ Some a → (nth n l ≡ Some a → In a l) → In a (x ∷ l)
    go true q rest =
        let same : a ≡ x = cc in
        Memᴰ.head same
    go false q rest = Memᴰ.tail (rest q)

-- ---- events

pub data Event : Type 0 where
  -- the frame with this number comes to its address, at a time; nothing if there is none
  deliver : ℕ → ℕ → Event
  -- a client's request arrives at an address with an id, at a time
  request : ℕ → ℕ → ℕ → Request → ℕ → Event
  -- a time at an address
  clock : ℕ → ℕ → Event

unfoldable pub delivered : Plant → ℕ → Option Frame → Plant
delivered s t None = s
delivered s t (Some f) = hear s f.from f.to t f.message

unfoldable pub step : Plant → Event → Plant
step s (deliver n t) = delivered s t (nth n s.frames)
step s (request from at id r t) = hear (arriving s from at id r) from at t (Message.ClientRequest id r)
step s (clock at t) = tick s at t

unfoldable pub play : Plant → List Event → Plant
play s [] = s
play s (e ∷ l) = play (step s e) l

module _ (fixed : List ℕ) (start : Plant) where
  pub step_run : (s : Plant) → Run fixed start s → (e : Event) → Run fixed start (step s e)
  unfolding step delivered
  step_run s r (deliver n t) = go (nth n s.frames) refl
    where
      go : (o : Option Frame) → nth n s.frames ≡ o → Run fixed start (delivered s t o)
      go None e = r
      go (Some f) e = delivers r f (nth_in n s.frames f e) t
  step_run s r (request from at id q t) = requests r from at id q t
  step_run s r (clock at t) = ticks r at t

  pub play_run : (s : Plant) → Run fixed start s → (l : List Event) → Run fixed start (play s l)
  unfolding play
  play_run s r [] = r
  play_run s r (e ∷ l) = play_run (step s e) (step_run s r e) l
