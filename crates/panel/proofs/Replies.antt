-- What the replies of each call say, as words.
-- Assumes nothing.
use Prim.Native.Nat.{ℕ, ◌+◌, ◌*◌, ◌≤◌}
use mathlib.Core.Path.{◌≡◌, refl, sym, ap, subst, ◌∙◌}
use mathlib.Core.List.{List}
use native.Mathlib.Omega.{arith}
use lib.ListN.{length}
use Rattle.std.specs.Prelude.{Option, Result, Ok, Err}
use Rattle.common.specs.Reply.{Reply, given, refused, length_of}
use Rattle.common.proofs.Reply.{given-not-refused}
use Rattle.sheet.specs.declared.index.Sheet.{Sheet}
use Rattle.sheet.specs.declared.index.Move.{Move}
use Rattle.sheet.specs.Refusal.{number_of, measured_of}
use Rattle.sheet.specs.Model.{machine_count, move_count}
use Rattle.sheet.specs.Parse.{parse}
use Rattle.sheet.specs.Index.{reading_of, index_reply}
use Rattle.sheet.specs.Kept.Indexed.{Indexed}
use Rattle.sheet.proofs.Indexed.{indexes-valid, indexes-machines, indexes-moves, accepted-indexed, refused-parse}
use Rattle.sheet.proofs.Place.{Near, refusal-near}
use Rattle.sheet.specs.declared.refusal.Refusal.{Refusal}
use Rattle.plan.specs.Planning.{length_reply, plan_reply}
use Rattle.plan.specs.Says.{planned_of, told_reply}
use Rattle.plan.proofs.SheetLength.{length-near, plan-near}
use Rattle.command.specs.declared.method.Command.{Command}
use Rattle.command.specs.Next.{next_reply}
use Rattle.command.specs.Apply.{apply_reply, effect_of, effect_reply}
use Rattle.command.specs.Says.{advice_says, change_says}
use Rattle.command.proofs.Near.{next-near, apply-near}
use Rattle.clean.specs.Clean.{clean_reply}
use Rattle.clean.proofs.Cleaned.{clean-near}
use Rattle.joining.specs.Join.{join_reply}
use Rattle.joining.proofs.Near.{join-near}
use Rattle.picture.specs.Graph.{graph_reply, read_reply}
use Rattle.picture.proofs.Near.{draw-near, read-near}
use Rattle.panel.specs.Words.{word_of, sheet_reply, done_reply, command_reply, move_reply}

-- a reply that is told in part: a refusal is told whole
refused-told : {A B : Type 0} (f : Reply A → Reply B) (g : A → B) → ((a : A) → f (given a) ≡ given (g a))
    → ((n p : ℕ) → f (refused n p) ≡ refused n p) → (q : Reply A) {n p : ℕ} → refused n p ≡ f q → q ≡ refused n p
refused-told f g is-given stays (given a) e = absurd (given-not-refused (sym (e ∙ is-given a)))
refused-told f g is-given stays (refused number place) {n} {p} e =
    let whole = e ∙ stays number place in
    let i : number ≡ n = cc in
    let j : place ≡ p = cc in
    rw (i, j)

-- the counts of an index are small
pub record Few (x : Sheet) : Type 0 where
  pub machines : x.machines ≤ 32
  pub moves : x.moves ≤ 250

module _ (s : List ℕ) (r : Result Sheet Refusal) (e : reading_of r ≡ index_reply (parse s)) where
  module _ {x : Sheet} (a : r ≡ Ok x) where
    i : Indexed s x
    i = accepted-indexed s r e a

    pub few-counts : Few x
    few-counts =
        let v = indexes-valid i.1 in
        record {
          machines = omega (arith, indexes-machines i.1, v.few-machines);
          moves = omega (arith, indexes-moves i.1, v.few-moves);
        }

    -- an accepted sheet's word holds its counts
    pub accepted-word : 256 * x.moves + x.machines ≡ word_of (sheet_reply (parse s))
    accepted-word =
        let n = indexes-machines i.1 ∙ ap machine_count i.1.model in
        let v = indexes-moves i.1 ∙ ap move_count i.1.model in
        rw i.1.passes (omega arith)

  -- a refused sheet's word holds the number and the place
  module _ {why : Refusal} (a : r ≡ Err why) where
    pub refused-word : 4294967296 * number_of why.cause + why.place ≡ word_of (sheet_reply (parse s))
    refused-word = rw (refused-parse s r e a)

    pub refused-near : why.place ≤ 65535
    refused-near = (refusal-near s (refused-parse s r e a)).near

-- a reply that is a length or a refusal
module _ {r : Result ℕ Refusal} {why : Refusal} (a : r ≡ Err why) where
  pub unmeasured-word : 4294967296 * number_of why.cause + why.place ≡ word_of (measured_of r)
  unmeasured-word = ap (λ q. word_of (measured_of q)) (sym a)

  pub unmeasured-near : ((number place : ℕ) → measured_of r ≡ refused number place → place ≤ 65535) → why.place ≤ 65535
  unmeasured-near near = near _ _ (ap measured_of a)

-- its place is near: of the plan's length
pub measured-near : (s : List ℕ) (r : Result ℕ Refusal) → measured_of r ≡ length_reply s
    → (number place : ℕ) → measured_of r ≡ refused number place → place ≤ 65535
measured-near s r e number place a = (length-near s (sym e ∙ a)).near

-- and of a call that replies the length of what it writes
output-near : (q : Reply (List ℕ)) → ((n p : ℕ) → q ≡ refused n p → Near n p) → (r : Result ℕ Refusal) → measured_of r ≡ length_of q
    → (number place : ℕ) → measured_of r ≡ refused number place → place ≤ 65535
output-near q near r e number place a =
    (near _ _ (refused-told length_of length (λ out. refl) (λ n p. refl) q (sym a ∙ e))).near

pub cleaned-near : (s : List ℕ) (room : ℕ) (r : Result ℕ Refusal) → measured_of r ≡ length_of (clean_reply s room)
    → (number place : ℕ) → measured_of r ≡ refused number place → place ≤ 65535
cleaned-near s room = output-near (clean_reply s room) (λ n p. clean-near s room)

pub joined-near : (s lent : List ℕ) (room : ℕ) (r : Result ℕ Refusal) → measured_of r ≡ length_of (join_reply s lent room)
    → (number place : ℕ) → measured_of r ≡ refused number place → place ≤ 65535
joined-near s lent room = output-near (join_reply s lent room) (λ n p. join-near s lent room)

pub drawn-near : (s : List ℕ) (room : ℕ) (r : Result ℕ Refusal) → measured_of r ≡ length_of (graph_reply s room)
    → (number place : ℕ) → measured_of r ≡ refused number place → place ≤ 65535
drawn-near s room = output-near (graph_reply s room) (λ n p. draw-near s room)

pub shown-near : (text : List ℕ) (room : ℕ) (r : Result ℕ Refusal) → measured_of r ≡ length_of (read_reply text room)
    → (number place : ℕ) → measured_of r ≡ refused number place → place ≤ 65535
shown-near text room = output-near (read_reply text room) (λ n p. read-near text room)

module _ (s : List ℕ) (buffer scratch : ℕ) (r : Result Unit Refusal) (e : planned_of r ≡ told_reply (plan_reply s buffer scratch)) where
  -- the word of a plan that is written is 0
  pub planned-word : r ≡ Ok tt → 0 ≡ word_of (done_reply (plan_reply s buffer scratch))
  planned-word a = go (plan_reply s buffer scratch) (ap planned_of (sym a) ∙ e)
    where
      go : (q : Reply (List ℕ)) → given tt ≡ told_reply q → 0 ≡ word_of (done_reply q)
      go (given plan) h = refl
      go (refused number place) h = absurd (given-not-refused h)

  module _ {why : Refusal} (a : r ≡ Err why) where
    unplanned : plan_reply s buffer scratch ≡ refused (number_of why.cause) why.place
    unplanned = refused-told told_reply (λ plan. tt) (λ plan. refl) (λ n p. refl) _ (ap planned_of (sym a) ∙ e)

    pub unplanned-word : 4294967296 * number_of why.cause + why.place ≡ word_of (done_reply (plan_reply s buffer scratch))
    unplanned-word = rw unplanned

    pub unplanned-near : why.place ≤ 65535
    unplanned-near = (plan-near s buffer scratch unplanned).near

module _ (s plan state goal : List ℕ) (r : Result (Option Command) Refusal) (e : advice_says r ≡ next_reply s plan state goal) where
  abbrev advice_word : ℕ
  advice_word = word_of (command_reply (next_reply s plan state goal))

  -- the word of what is given, a command or that all is done
  pub advised-word : {x : Option Command} → r ≡ Ok x → word_of (command_reply (advice_says (Ok x))) ≡ advice_word
  advised-word a = ap (λ q. word_of (command_reply q)) (ap advice_says (sym a) ∙ e)

  module _ {why : Refusal} (a : r ≡ Err why) where
    unadvised : refused (number_of why.cause) why.place ≡ next_reply s plan state goal
    unadvised = ap advice_says (sym a) ∙ e

    pub unadvised-word : 4294967296 * number_of why.cause + why.place ≡ advice_word
    unadvised-word = ap (λ q. word_of (command_reply q)) unadvised

    pub unadvised-near : why.place ≤ 65535
    unadvised-near = (next-near s plan state goal (sym unadvised)).near

-- a refusal of applying is near, also where the state is not told
pub effect-near : (s state : List ℕ) (machine byte : ℕ) {n p : ℕ}
    → effect_reply (apply_reply s state machine byte) ≡ refused n p → Near n p
effect-near s state machine byte e =
    apply-near s state machine byte (refused-told effect_reply effect_of (λ x. refl) (λ n p. refl) _ (sym e))

module _ (s state : List ℕ) (machine byte : ℕ) (r : Result (Option Move) Refusal)
    (e : change_says r ≡ effect_reply (apply_reply s state machine byte)) where
  abbrev move_word : ℕ
  move_word = word_of (move_reply (effect_reply (apply_reply s state machine byte)))

  -- the word of what is given, a move or that none was made
  pub applied-word : {x : Option Move} → r ≡ Ok x → word_of (move_reply (change_says (Ok x))) ≡ move_word
  applied-word a = ap (λ q. word_of (move_reply q)) (ap change_says (sym a) ∙ e)

  module _ {why : Refusal} (a : r ≡ Err why) where
    unapplied : refused (number_of why.cause) why.place ≡ effect_reply (apply_reply s state machine byte)
    unapplied = ap change_says (sym a) ∙ e

    pub unapplied-word : 4294967296 * number_of why.cause + why.place ≡ move_word
    unapplied-word = ap (λ q. word_of (move_reply q)) unapplied

    pub unapplied-near : why.place ≤ 65535
    unapplied-near = (effect-near s state machine byte (sym unapplied)).near
