-- The words of the C interface come apart again: refusals are near, and what a call gives is small.
-- Assumes nothing.
use Prim.Native.Nat.{ℕ, ◌+◌, ◌/◌, ◌%◌, ◌≤◌, ◌<◌}
use mathlib.Core.Path.{◌≡◌, refl, sym, ap}
use mathlib.Core.Logic.{◌↔◌}
use mathlib.Core.List.{List}
use mathlib.Core.Bool.{true, false}
use native.Mathlib.Omega.{arith}
use lib.ListN.{length, get_or}
use Rattle.common.specs.Reply.{Reply, given, refused, length_of}
use Rattle.common.proofs.Bools.{by_cases, true-false}
use Rattle.common.proofs.Clear.{each-clear}
use Rattle.common.proofs.Reply.{given-not-refused, given-clear, and_then-given}
use Rattle.sheet.specs.Record.{byte, body_at}
use Rattle.sheet.specs.Model.{move_of}
use Rattle.sheet.specs.Parse.{parse}
use Rattle.sheet.proofs.Records.{body-byte}
use Rattle.sheet.proofs.Parsed.{parse-valid, parse-stands}
use Rattle.sheet.proofs.Place.{Near, refusal-near}
use Rattle.plan.proofs.SheetLength.{length-near, plan-near}
use Rattle.command.specs.Next.{Next, done, command, next_reply}
use Rattle.command.specs.Apply.{Applied, Effect, apply_reply, effect_reply}
use Rattle.command.proofs.Applying.{applies-right}
use Rattle.command.proofs.Near.{next-near}
use Rattle.command.proofs.Tags.{sent-answered}
use Rattle.command.proofs.Turns.{length_most}
use Rattle.clean.proofs.Cleaned.{clean-near, read_alike}
use Rattle.joining.proofs.Near.{join-near}
use Rattle.joining.proofs.Written.{reply-short}
use Rattle.picture.proofs.Near.{draw-near, read-near}
use Rattle.picture.proofs.Written.{drawn-most, read-most}
use Rattle.panel.specs.Words.{word_of, sheet_reply, done_reply, command_reply, move_reply}
use Rattle.panel.specs.Apart.{Apart, TellsLength, WordsRight, AllApart}
use Rattle.panel.proofs.Replies.{effect-near}

-- a refusal that is near
near_apart : {n p : ℕ} → Near n p
    → (0 < n) × (word_of (refused n p) / 4294967296 ≡ n) × (word_of (refused n p) % 4294967296 ≡ p)
near_apart h = omega arith

-- a call that tells a refusal whole, and what it gives as a small number
word-apart : {A : Type 0} (reply : Reply A) (tell : Reply A → Reply ℕ) → ((n p : ℕ) → tell (refused n p) ≡ refused n p)
    → ((n p : ℕ) → reply ≡ refused n p → Near n p)
    → ((a : A) → reply ≡ given a → word_of (tell (given a)) < 4294967296)
    → Apart reply (word_of (tell reply))
word-apart reply tell stays near small =
    record { refusal = λ n p e. rw (e, stays n p) (near_apart (near n p e)); value = λ a e. rw e (small a e) }

tells-length : (reply : Reply (List ℕ)) → ((n p : ℕ) → reply ≡ refused n p → Near n p)
    → ((out : List ℕ) → reply ≡ given out → length out < 4294967296) → TellsLength reply
tells-length reply near short =
    record { apart = word-apart reply length_of (λ n p. refl) near short; bytes = λ out e. rw e }

-- What is sent, and what is done

module _ (sheet : List ℕ) (bytes : (i : ℕ) → byte sheet i < 256) (plan state goal : List ℕ) where
  -- a command is a machine of the sheet and a byte of the sheet
  sent-small : {i c : ℕ} → next_reply sheet plan state goal ≡ given (command i c) → (i < 32) × (c < 256)
  unfolding move_of
  sent-small e =
      let sent = sent-answered sheet plan state goal e in
      let there = sent.answers.there in
      let valid = parse-valid sheet sent.passes in
      let stands = parse-stands sheet sent.passes sent.move there in
      let present = (valid.moves-valid sent.move there).present in
      let place : ℕ = get_or sent.read.places sent.move 0 in
      let some : 0 < length (body_at sheet place) = omega (arith, stands.long) in
      let last = body-byte sheet place some 3 stands.long in
      omega (arith, valid.few-machines, sent.answers, ap (λ v. v.command) stands.read, last, bytes (place + 4 + 3))

  sent_word : (next : Next) → next_reply sheet plan state goal ≡ given next
      → word_of (command_reply (given next)) < 4294967296
  sent_word done e = omega arith
  sent_word (command i c) e = omega (arith, sent-small e)

  -- no other reply tells 0
  done-alone : (r : Reply Next) → next_reply sheet plan state goal ≡ r → word_of (command_reply r) ≡ 0 → r ≡ given done
  done-alone (given done) e z = refl
  done-alone (given (command i c)) e z = absurd (let f : ⊥ = omega arith in f)
  done-alone (refused n p) e z = absurd (let f : ⊥ = omega (arith, next-near sheet plan state goal e) in f)

  sent-apart : (i c : ℕ) → next_reply sheet plan state goal ≡ given (command i c)
      → (word_of (command_reply (given (command i c))) / 256 % 256 ≡ i)
      × (word_of (command_reply (given (command i c))) % 256 ≡ c)
  sent-apart i c e = omega (arith, sent-small e)

-- what applying tells was replied
effect-given : (r : Reply Applied) {e : Effect} → effect_reply r ≡ given e → (a : Applied) × (r ≡ given a)
effect-given (given a) h = (a, refl)
effect-given (refused n p) h = absurd (given-not-refused (sym h))

-- a move of the sheet that acted, or 255
record Told (e : Effect) : Type 0 where
  moved : e.changed ≡ true → e.move < 250
  idle : e.changed ≡ false → e.move ≡ 255

effect-told : (sheet state : List ℕ) (i c : ℕ) (e : Effect) → effect_reply (apply_reply sheet state i c) ≡ given e → Told e
unfolding apply_reply
effect-told sheet state i c e h =
    let (a, replied) = effect-given _ h in
    let (d, parses, passed) = and_then-given (parse sheet) _ replied in
    let right = (applies-right sheet state i c d parses (each-clear _ (given-clear _ _ passed))).told e h in
    record {
      moved = λ t. omega (arith, (right.the-move t).0.there, (parse-valid sheet parses).few-moves);
      idle = λ f. (right.no_move f).0;
    }

-- the word of what applying tells
module _ (e : Effect) (told : Told e) where
  move-small : word_of (move_reply (given e)) < 4294967296
  move-small =
      by_cases e.changed (λ t. rw t (omega (arith, told.moved t))) (λ f. rw f (omega arith))

  move-apart : ((e.changed ≡ true) ↔ (256 ≤ word_of (move_reply (given e))))
      × (word_of (move_reply (given e)) % 256 ≡ e.move)
  move-apart =
      by_cases e.changed
      (λ t. rw t ((λ c. omega arith, λ l. refl), omega (arith, told.moved t)))
      (λ f.
      rw f (
        (λ c. absurd (true-false c refl), λ l. absurd (let n : ⊥ = omega arith in n)),
        omega (arith, told.idle f),
      ))

-- Every call

words_right : (sheet : List ℕ) → ((i : ℕ) → byte sheet i < 256) → WordsRight sheet
words_right sheet bytes =
    record {
      sheets = word-apart (parse sheet) sheet_reply (λ n p. refl) (λ n p. refusal-near sheet) (λ d e.
          let valid = parse-valid sheet e in
          omega (arith, valid.few-machines, valid.few-moves));
      counts = λ d e. let valid = parse-valid sheet e in rw e (omega (arith, valid.few-machines));
      lengths =
          word-apart _ (λ r. r) (λ n p. refl) (λ n p. length-near sheet) (λ n e. omega (arith, length_most sheet e));
      plan-bytes = λ n e. rw e;
      plans = λ buffer scratch.
          word-apart _ done_reply (λ n p. refl) (λ n p. plan-near sheet buffer scratch) (λ plan e. omega arith);
      written = λ buffer scratch plan e. rw e;
      commands = λ plan state goal.
          word-apart _ command_reply (λ n p. refl) (λ n p. next-near sheet plan state goal)
          (sent_word sheet bytes plan state goal);
      dones = λ plan state goal. (λ e. rw e, done-alone sheet bytes plan state goal _ refl);
      machines-sent = λ plan state goal i c e. rw e (sent-apart sheet bytes plan state goal i c e);
      effects = λ state i c.
          word-apart _ move_reply (λ n p. refl) (λ n p. effect-near sheet state i c)
          (λ e h. move-small e (effect-told sheet state i c e h));
      moves = λ state i c e h. rw h (move-apart e (effect-told sheet state i c e h));
      cleans = λ room. tells-length _ (λ n p. clean-near sheet room) (λ out e. omega (arith, (read_alike sheet room e).short));
      joins = λ goals room.
          tells-length _ (λ n p. join-near sheet goals room) (λ out e. omega (arith, reply-short sheet goals room e));
      draws = λ room. tells-length _ (λ n p. draw-near sheet room) (λ out e. omega (arith, drawn-most sheet room e));
    }

pub all_apart : AllApart
all_apart =
    record {
      calls = words_right;
      readings = λ text room.
          tells-length _ (λ n p. read-near text room) (λ out e. omega (arith, read-most text room e));
    }
