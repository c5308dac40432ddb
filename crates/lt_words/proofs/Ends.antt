-- What is still missing behind `run`: it can always be supplied, so no word before is a fault.
use Rattle.std.proofs.Common.{◌≡◌, ℕ, ◌≤◌, Bool, true, false, List, [], ◌∷◌, ◌++◌, inl, inr, Option, Some, None, IfSome, refl, sym, ap, ◌∙◌, subst, arith}
use Rattle.std.specs.Option.{unwrap_or}
use Rattle.std.specs.Fmt.{decimal}
use Rattle.lt_model.specs.Limits.{step_limit}
use Rattle.lt_words.specs.declared.words.Command.{Command}
use Rattle.lt_words.specs.declared.words.Command.TheVariants.{Run}
use Rattle.lt_words.specs.declared.options.Setting.{Setting}
use Rattle.lt_words.specs.declared.options.Setting.TheVariants.{Workers, Steps}
use Rattle.lt_words.specs.declared.options.Options.{Options}
use Rattle.lt_words.specs.Grammar.{IsDimension, IsInSetting, InRange, Item, dimension, setting, resuming, ending, AreSpellings, dimensions, numbers, resumes, IsChosen}
use Rattle.lt_words.specs.Rests.{IsSound, named, listed, AreLast, Complete, IsRestBy, IsRest}
use Rattle.lt_words.proofs.Ranges.{few_steps}
use Rattle.lt_words.proofs.Steps.{ended_more, no_ending}

-- ---- nothing is missing

-- no word spells no item
pub no_items : (items : List Item) → AreSpellings items [] → items ≡ []
no_items [] e = refl
no_items (dimension d ∷ more) (own, rest, e, (r, o), m) = let f : [] ≡ decimal d ∷ rest = e ∙ ap (λ l. l ++ rest) o in absurd (cc)
no_items (setting s n ∷ more) (own, rest, e, (r, inl o), m) = let f = e ∙ ap (λ l. l ++ rest) o in absurd (cc)
no_items (setting s n ∷ more) (own, rest, e, (r, inr o), m) = let f = e ∙ ap (λ l. l ++ rest) o in absurd (cc)
no_items (resuming ∷ more) (own, rest, e, o, m) = let f = e ∙ ap (λ l. l ++ rest) o in absurd (cc)
no_items (ending ∷ more) (own, rest, e, o, m) = let f = e ∙ ap (λ l. l ++ rest) o in absurd (cc)

-- without a dimension
pub missing_dimension : (o : Options) → o.due ≡ None → o.d ≡ None → (c : Command) → IsRest o c [] → ⊥
missing_dimension o due none (Run d w s r) rest =
    let (items, m, f) = subst (λ u. IsRestBy u o (Run d w s r) []) due rest in
    let e : [] ≡ d ∷ [] = sym (ap dimensions (no_items items m)) ∙ ap (λ k. listed k ++ dimensions items) (sym none) ∙ f.one_dimension in
    cc
missing_dimension o due none c rest = (subst (λ u. IsRestBy u o c []) due rest).2

-- ---- what supplies it

-- the dimension 2, where none is there
supplied : Option ℕ → List Item
supplied None = dimension 2 ∷ []
supplied (Some d) = []

supplied_words : Option ℕ → List (List ℕ)
supplied_words None = decimal 2 ∷ []
supplied_words (Some d) = []

two : IsDimension 2
two = (omega arith, omega arith)

are_supplied : (m : Option ℕ) → AreSpellings (supplied m) (supplied_words m)
unfolding supplied supplied_words
are_supplied None = (decimal 2 ∷ [], [], refl, (two, refl), refl)
are_supplied (Some d) = refl

one_supplied : (m : Option ℕ) → listed m ++ dimensions (supplied m) ≡ unwrap_or m 2 ∷ []
unfolding supplied
one_supplied None = refl
one_supplied (Some d) = refl

last_supplied : (b : Bool) (m : Option ℕ) → AreLast b (supplied m)
unfolding supplied
last_supplied true None = inr (2, refl)
last_supplied true (Some d) = inl refl
last_supplied false None = ended_more (dimension 2) [] (λ e. cc) (λ before after e. absurd (no_ending before after e))
last_supplied false (Some d) = λ before after e. absurd (no_ending before after e)

none_supplied : (s : Setting) (m : Option ℕ) → numbers s (supplied m) ≡ []
unfolding supplied
none_supplied Workers None = refl
none_supplied Steps None = refl
none_supplied Workers (Some d) = refl
none_supplied Steps (Some d) = refl

never_supplied : (m : Option ℕ) → resumes (supplied m) ≡ 0
unfolding supplied
never_supplied None = refl
never_supplied (Some d) = refl

-- the limit on steps of the dimension that was named, or else of the dimension 2
abbrev limit_of : Options → ℕ
limit_of o = step_limit (unwrap_or o.d 2)

-- the run with the default where nothing was named
abbrev pub plain : Options → Command
plain o = Run (unwrap_or o.d 2) (unwrap_or o.workers 1) (unwrap_or o.steps (step_limit (unwrap_or o.d 2))) o.resume

-- its steps are within the limit of its dimension
steps_within : (m k : Option ℕ) → IfSome m (λ d. IfSome k (λ n. n ≤ step_limit d)) → IfSome k (λ n. n ≤ step_limit 2) → unwrap_or k (step_limit (unwrap_or m 2)) ≤ step_limit (unwrap_or m 2)
steps_within m None few range = omega arith
steps_within None (Some n) few range = range
steps_within (Some d) (Some n) few range = few

plain_few : (o : Options) → IsSound o → unwrap_or o.steps (step_limit (unwrap_or o.d 2)) ≤ step_limit (unwrap_or o.d 2)
plain_few o s = steps_within o.d o.steps s.few s.steps

chosen : (m : Option ℕ) (default : ℕ) (more : List ℕ) → more ≡ [] → IsChosen default (listed m ++ more) (unwrap_or m default)
chosen None default more e = inr (e, refl)
chosen (Some n) default more e = inl (ap (λ l. n ∷ l) e)

plain_complete : (o : Options) → IsSound o → Complete o (plain o) (supplied o.d)
plain_complete o s = record {
  one_dimension = one_supplied o.d;
  chosen_workers = chosen o.workers 1 (numbers Workers (supplied o.d)) (none_supplied Workers o.d);
  chosen_steps = chosen o.steps (limit_of o) (numbers Steps (supplied o.d)) (none_supplied Steps o.d);
  few = plain_few o s;
  resumed = omega (arith, never_supplied o.d);
  last = last_supplied o.ended o.d;
}

-- the number of a setting that is due is its default
default_of : Options → Setting → ℕ
default_of o Workers = 1
default_of o Steps = limit_of o

default_in_setting : (o : Options) (s : Setting) → IsInSetting s (default_of o s)
unfolding default_of
default_in_setting o Workers = (omega arith, omega arith)
default_in_setting o Steps = few_steps (unwrap_or o.d 2)

chosen_now : (m : Option ℕ) (default : ℕ) (more : List ℕ) → m ≡ None → more ≡ [] → IsChosen default (listed m ++ default ∷ more) (unwrap_or m default)
chosen_now None default more none e = inl (ap (λ l. default ∷ l) e)
chosen_now (Some n) default more none e = absurd (cc)

due_complete : (o : Options) (t : Setting) → IsSound o → named o t ≡ None → o.ended ≡ false → Complete o (plain o) (setting t (default_of o t) ∷ supplied o.d)
unfolding default_of
due_complete o Workers s none on = record {
  one_dimension = one_supplied o.d;
  chosen_workers = chosen_now o.workers 1 (numbers Workers (supplied o.d)) none (none_supplied Workers o.d);
  chosen_steps = chosen o.steps (limit_of o) (numbers Steps (supplied o.d)) (none_supplied Steps o.d);
  few = plain_few o s;
  resumed = omega (arith, never_supplied o.d);
  last = subst (λ b. AreLast b (setting Workers 1 ∷ supplied o.d)) (sym on) (ended_more (setting Workers 1) (supplied o.d) (λ e. cc) (last_supplied false o.d));
}
due_complete o Steps s none on = record {
  one_dimension = one_supplied o.d;
  chosen_workers = chosen o.workers 1 (numbers Workers (supplied o.d)) (none_supplied Workers o.d);
  chosen_steps = chosen_now o.steps (limit_of o) (numbers Steps (supplied o.d)) none (none_supplied Steps o.d);
  few = plain_few o s;
  resumed = omega (arith, never_supplied o.d);
  last = subst (λ b. AreLast b (setting Steps (limit_of o) ∷ supplied o.d)) (sym on) (ended_more (setting Steps (limit_of o)) (supplied o.d) (λ e. cc) (last_supplied false o.d));
}

in_or : (P : ℕ → Type 0) (m : Option ℕ) (default : ℕ) → IfSome m P → P default → P (unwrap_or m default)
in_or P None default h d = d
in_or P (Some n) default h d = h

plain_in_range : (o : Options) → IsSound o → InRange (plain o)
plain_in_range o s = (in_or IsDimension o.d 2 s.dimension two, in_or (IsInSetting Workers) o.workers 1 s.workers (omega arith, omega arith), plain_few o s)

rest_by : (o : Options) → IsSound o → (u : Option Setting) → IfSome u (λ s. (named o s ≡ None) × (o.ended ≡ false)) → (ws : List (List ℕ)) × IsRestBy u o (plain o) ws
rest_by o sound None h = (supplied_words o.d, (supplied o.d, are_supplied o.d, plain_complete o sound))
rest_by o sound (Some s) h = (decimal (default_of o s) ∷ supplied_words o.d, (default_of o s, supplied_words o.d, supplied o.d, refl, default_in_setting o s, are_supplied o.d, due_complete o s sound h.0 h.1))

pub some_rest : (o : Options) → IsSound o → (ws : List (List ℕ)) × InRange (plain o) × IsRest o (plain o) ws
some_rest o s = let (ws, r) = rest_by o s o.due s.due in (ws, plain_in_range o s, r)

-- the run that was named
pub whole : (o : Options) (d : ℕ) → IsSound o → o.due ≡ None → o.d ≡ Some d → IsRest o (plain o) []
unfolding supplied supplied_words
whole o d sound due some = subst (λ u. IsRestBy u o (plain o) []) (sym due) (subst (λ m. (items : List Item) × AreSpellings items (supplied_words m) × Complete o (plain o) items) some (supplied o.d, are_supplied o.d, plain_complete o sound))
