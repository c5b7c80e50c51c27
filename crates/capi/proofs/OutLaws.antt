-- Laws of words stored one after another in a lent slice.
use Rattle.std.proofs.Common.{◌≡◌, sym, ap, ◌∙◌, ℕ, List, ◌++◌, length, arith, append_assoc}
use Rattle.std.proofs.lemmas.Grind.{common_steps, elements}
use Rattle.capi.specs.Words.{Says, Put}
use Rattle.capi.specs.Stored.{Begun, Stored, Finished}
use Rattle.capi.specs.declared.out.Words.{Words}

-- one after another
put_then : {a b : List ℕ} {at r : ℕ} {ws : List ℕ} → Put a b at r ws → length b ≡ length a → {c : List ℕ} {q : ℕ} {vs : List ℕ} → Put b c r q vs → Put a c at q (ws ++ vs)
put_then p l s = record { inside = omega (arith, s.inside); words = let w = p.words in let v = s.words in grind (arith, common_steps) }

pub stored_then : {a b : Words} {ws : List ℕ} → Stored a b ws → {c : Words} {vs : List ℕ} → Stored b c vs → Stored a c (ws ++ vs)
stored_then s t = record { lent = t.lent ∙ s.lent; same = t.same ∙ s.same; put = put_then s.put s.same t.put }

-- what is handed back where zeros follow all words
pub said : {before after : List ℕ} {a b : Words} {r : ℕ} {ws : List ℕ} → Begun before a → Stored a b ws → Finished b after r → Says 0 ws before after r
said n t f = record { status_is = f.status; words_are = let h = n.holds in let z = n.none in let e = f.words in let w = t.put.words in let i = t.put.inside in let l = t.same in grind (arith, elements) }

-- the words of some pieces are stored, and those of the rest follow
pub record Running (a : Words) (all rest : List ℕ) (b : Words) : Type 0 where
  pub done : List ℕ
  pub stored : Stored a b done
  pub is : all ≡ done ++ rest

pub running_more : {a b c : Words} {all rest : List ℕ} → Running a all rest b → (ws rest' : List ℕ) → rest ≡ ws ++ rest' → Stored b c ws → Running a all rest' c
running_more t ws rest' e s =
    record {
      done = t.done ++ ws;
      stored = stored_then t.stored s;
      is = t.is ∙ ap (λ (x : List ℕ). t.done ++ x) e ∙ sym (append_assoc t.done ws rest');
    }
