-- A word more stands over the buffer, and at the end as many as there is room for.
use Rattle.std.proofs.Common.{◌≡◌, refl, ap, sym, ◌∙◌, ℕ, zero, suc, List, [], ◌∷◌, ◌+◌, ◌<◌, length, min, take, set, get_or, arith}
use native.Mathlib.Numerals.{unary_clauses, add-one}
use Rattle.exports.specs.Answers.{over}
use Rattle.exports.proofs.words.lay.Goals as goal

more : (ws b : List ℕ) (k : ℕ) → k < length ws → k < length b → set (over (take k ws) b) k (get_or ws k 0) ≡ over (take (suc k) ws) b
more [] b k h g = absurd (omega arith)
more (w ∷ ws) [] k h g = absurd (omega arith)
more (w ∷ ws) (x ∷ b) zero h g = refl
more (w ∷ ws) (x ∷ b) (suc k) h g = ap (λ t. w ∷ t) (more ws b k (omega arith) (omega arith))

parts : (ws b : List ℕ) → over (take (min (length ws) (length b)) ws) b ≡ over ws b
parts [] b = simp unary_clauses refl
parts (w ∷ ws) [] = simp unary_clauses refl
parts (w ∷ ws) (x ∷ b) = simp unary_clauses (ap (λ t. w ∷ t) (parts ws b))

pub loop-k-preserved : goal.loop-k-preserved
loop-k-preserved c =
    rw (add-one c.loop-k.k, c.loop-k.invariant) (more c.args.words.now c.args.buffer.now c.loop-k.k (omega arith) (omega arith))

pub returns : goal.returns
returns c =
    let all : c.loop-k.k ≡ min (length c.args.words.now) (length c.args.buffer.now) = omega arith in
    c.loop-k.invariant ∙ rw all (parts c.args.words.now c.args.buffer.now)
