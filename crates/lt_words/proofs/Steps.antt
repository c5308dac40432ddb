-- What one item more makes of what was read behind `run`.
use Rattle.std.proofs.Common.{◌≡◌, ℕ, ◌≤◌, Bool, true, false, List, [], ◌∷◌, ◌++◌, ◌⊎◌, ◌↔◌, inl, inr, Option, Some, None, IfSome, refl, sym, ap, ◌∙◌, subst, arith}
use Rattle.lt_model.specs.Limits.{step_limit}
use Rattle.lt_words.specs.declared.words.Command.{Command}
use Rattle.lt_words.specs.declared.words.Command.TheVariants.{Run}
use Rattle.lt_words.specs.declared.options.Setting.{Setting}
use Rattle.lt_words.specs.declared.options.Setting.TheVariants.{Workers, Steps}
use Rattle.lt_words.specs.declared.options.Options.{Options}
use Rattle.lt_words.specs.Grammar.{Item, dimension, setting, resuming, ending, dimensions, numbers, times, IsChosen, AreEnded}
use Rattle.lt_words.specs.Rests.{named, listed, AreLast, Complete, IsInLimit, LeavesSteps}

-- ---- `--` among the items

-- an item that isn't `--` changes nothing
pub ended_more : (i : Item) (items : List Item) → (i ≡ ending → ⊥) → AreEnded items → AreEnded (i ∷ items)
ended_more i items other h [] after e = absurd (other (let f = e in cc))
ended_more i items other h (j ∷ before) after e = h before after (let f = e in cc)

ended_less : (i : Item) (items : List Item) → AreEnded (i ∷ items) → AreEnded items
ended_less i items h before after e = h (i ∷ before) after (ap (λ l. i ∷ l) e)

-- nothing but a dimension stands behind `--`
ended_here : (items : List Item) → AreEnded (ending ∷ items) → AreLast true items
ended_here items h = h [] items refl

pub no_ending : (before after : List Item) → [] ≡ before ++ ending ∷ after → ⊥
no_ending [] after e = cc
no_ending (j ∷ before) after e = cc

last_behind : (items before after : List Item) → AreLast true items → items ≡ before ++ ending ∷ after → ⊥
last_behind items before after (inl none) e = no_ending before after (sym none ∙ e)
last_behind items [] after (inr (d, one)) e = let f : dimension d ∷ [] ≡ ending ∷ after = sym one ∙ e in cc
last_behind items (j ∷ before) after (inr (d, one)) e = let f : dimension d ∷ [] ≡ j ∷ (before ++ ending ∷ after) = sym one ∙ e in no_ending before after (cc)

here_ended : (items : List Item) → AreLast true items → AreEnded (ending ∷ items)
here_ended items h [] after e = let f : items ≡ after = cc in subst (λ l. (l ≡ []) ⊎ ((d : ℕ) × (l ≡ dimension d ∷ []))) f h
here_ended items h (j ∷ before) after e = absurd (last_behind items before after h (let f = e in cc))

-- the items behind `--` begin with a dimension
only_dimension : (i : Item) (items : List Item) → AreLast true (i ∷ items) → ((d : ℕ) → i ≡ dimension d → ⊥) → ⊥
only_dimension i items (inl none) other = cc
only_dimension i items (inr (d, one)) other = other d (cc)

-- ---- one item more

abbrev with_dimension : Options → ℕ → Options
with_dimension o d = record o { d = Some d }

last_dimension : (ended : Bool) (x d : ℕ) (items : List Item) → AreLast ended (dimension x ∷ items) → AreLast ended items
last_dimension true x d items (inl none) = absurd (cc)
last_dimension true x d items (inr (y, one)) = inl (cc)
last_dimension false x d items h = ended_less (dimension x) items h

dimension_last : (ended : Bool) (x d : ℕ) (items : List Item) → x ∷ dimensions items ≡ d ∷ [] → AreLast ended items → AreLast ended (dimension x ∷ items)
dimension_last true x d items e (inl none) = inr (x, ap (λ l. dimension x ∷ l) none)
dimension_last true x d items e (inr (y, one)) = let f : dimensions items ≡ y ∷ [] = ap dimensions one in absurd (cc)
dimension_last false x d items e h = ended_more (dimension x) items (λ f. cc) h

-- the dimension
pub takes_dimension : (o : Options) (x : ℕ) → o.d ≡ None → (c : Command) (items : List Item) → Complete o c (dimension x ∷ items) ↔ Complete (with_dimension o x) c items
takes_dimension o x none (Run d w s r) items = (
  λ f. record {
    one_dimension = ap (λ m. listed m ++ x ∷ dimensions items) (sym none) ∙ f.one_dimension;
    chosen_workers = f.chosen_workers;
    chosen_steps = f.chosen_steps;
    few = f.few;
    resumed = f.resumed;
    last = last_dimension o.ended x d items f.last;
  },
  λ g. record {
    one_dimension = ap (λ m. listed m ++ x ∷ dimensions items) none ∙ g.one_dimension;
    chosen_workers = g.chosen_workers;
    chosen_steps = g.chosen_steps;
    few = g.few;
    resumed = g.resumed;
    last = dimension_last o.ended x d items g.one_dimension g.last;
  },
)
takes_dimension o x none _ items = (λ f. f, λ f. f)

-- a second one
pub one_dimension_alone : (o : Options) (x y : ℕ) → o.d ≡ Some y → (c : Command) (items : List Item) → Complete o c (dimension x ∷ items) → ⊥
one_dimension_alone o x y some (Run d w s r) items f = let e : y ∷ x ∷ dimensions items ≡ d ∷ [] = ap (λ m. listed m ++ x ∷ dimensions items) (sym some) ∙ f.one_dimension in cc
one_dimension_alone o x y some _ items f = f

at_most_one : (r : Bool) → times r ≤ 1
at_most_one true = omega arith
at_most_one false = omega arith

last_less : (o : Options) (i : Item) (items : List Item) → o.ended ≡ false → AreLast o.ended (i ∷ items) → AreLast o.ended items
last_less o i items on h = subst (λ b. AreLast b items) (sym on) (ended_less i items (subst (λ b. AreLast b (i ∷ items)) on h))

last_more : (o : Options) (i : Item) (items : List Item) → o.ended ≡ false → (i ≡ ending → ⊥) → AreLast o.ended items → AreLast o.ended (i ∷ items)
last_more o i items on other h = subst (λ b. AreLast b (i ∷ items)) (sym on) (ended_more i items other (subst (λ b. AreLast b items) on h))

-- `--resume`
pub takes_resuming : (o : Options) → o.resume ≡ false → o.ended ≡ false → (c : Command) (items : List Item) → Complete o c (resuming ∷ items) ↔ Complete (record o { resume = true }) c items
takes_resuming o none on (Run d w s r) items =
    let zero : times o.resume ≡ 0 = ap times none in (
      λ f. record {
        one_dimension = f.one_dimension;
        chosen_workers = f.chosen_workers;
        chosen_steps = f.chosen_steps;
        few = f.few;
        resumed = omega (arith, f.resumed, zero);
        last = last_less o resuming items on f.last;
      },
      λ g. record {
        one_dimension = g.one_dimension;
        chosen_workers = g.chosen_workers;
        chosen_steps = g.chosen_steps;
        few = g.few;
        resumed = omega (arith, g.resumed, zero);
        last = last_more o resuming items on (λ e. cc) g.last;
      },
    )
takes_resuming o none on _ items = (λ f. f, λ f. f)

pub one_resuming_alone : (o : Options) → o.resume ≡ true → (c : Command) (items : List Item) → Complete o c (resuming ∷ items) → ⊥
one_resuming_alone o some (Run d w s r) items f = let one : times o.resume ≡ 1 = ap times some in omega (arith, f.resumed, one, at_most_one r)
one_resuming_alone o some _ items f = f

-- `--`
pub takes_ending : (o : Options) → o.ended ≡ false → (c : Command) (items : List Item) → Complete o c (ending ∷ items) ↔ Complete (record o { ended = true }) c items
takes_ending o on (Run d w s r) items = (
  λ f. record {
    one_dimension = f.one_dimension;
    chosen_workers = f.chosen_workers;
    chosen_steps = f.chosen_steps;
    few = f.few;
    resumed = f.resumed;
    last = ended_here items (subst (λ b. AreLast b (ending ∷ items)) on f.last);
  },
  λ g. record {
    one_dimension = g.one_dimension;
    chosen_workers = g.chosen_workers;
    chosen_steps = g.chosen_steps;
    few = g.few;
    resumed = g.resumed;
    last = subst (λ b. AreLast b (ending ∷ items)) (sym on) (here_ended items g.last);
  },
)
takes_ending o on _ items = (λ f. f, λ f. f)

-- behind `--` stands nothing but a dimension
pub nothing_else : (o : Options) (i : Item) → o.ended ≡ true → ((d : ℕ) → i ≡ dimension d → ⊥) → (c : Command) (items : List Item) → Complete o c (i ∷ items) → ⊥
nothing_else o i ended other (Run d w s r) items f = only_dimension i items (subst (λ b. AreLast b (i ∷ items)) ended f.last) other
nothing_else o i ended other _ items f = f

-- ---- settings

abbrev pub with_number : Options → Setting → ℕ → Options
with_number o Workers n = record o { workers = Some n; due = None }
with_number o Steps n = record o { steps = Some n; due = None }

first_chosen : (m : Option ℕ) (default n x : ℕ) (more : List ℕ) → m ≡ None → IsChosen default (listed m ++ n ∷ more) x ↔ IsChosen default (n ∷ more) x
first_chosen m default n x more none = let e : listed m ++ n ∷ more ≡ n ∷ more = ap (λ k. listed k ++ n ∷ more) none in (subst (λ l. IsChosen default l x) e, subst (λ l. IsChosen default l x) (sym e))

pub takes_number : (o : Options) (t : Setting) (n : ℕ) → named o t ≡ None → o.ended ≡ false → (c : Command) (items : List Item) → Complete o c (setting t n ∷ items) ↔ Complete (with_number o t n) c items
takes_number o Workers n none on (Run d w s r) items =
    let same = first_chosen o.workers 1 n w (numbers Workers items) none in (
      λ f. record {
        one_dimension = f.one_dimension;
        chosen_workers = same.0 f.chosen_workers;
        chosen_steps = f.chosen_steps;
        few = f.few;
        resumed = f.resumed;
        last = last_less o (setting Workers n) items on f.last;
      },
      λ g. record {
        one_dimension = g.one_dimension;
        chosen_workers = same.1 g.chosen_workers;
        chosen_steps = g.chosen_steps;
        few = g.few;
        resumed = g.resumed;
        last = last_more o (setting Workers n) items on (λ e. cc) g.last;
      },
    )
takes_number o Steps n none on (Run d w s r) items =
    let same = first_chosen o.steps (step_limit d) n s (numbers Steps items) none in (
      λ f. record {
        one_dimension = f.one_dimension;
        chosen_workers = f.chosen_workers;
        chosen_steps = same.0 f.chosen_steps;
        few = f.few;
        resumed = f.resumed;
        last = last_less o (setting Steps n) items on f.last;
      },
      λ g. record {
        one_dimension = g.one_dimension;
        chosen_workers = g.chosen_workers;
        chosen_steps = same.1 g.chosen_steps;
        few = g.few;
        resumed = g.resumed;
        last = last_more o (setting Steps n) items on (λ e. cc) g.last;
      },
    )
takes_number o Workers n none on _ items = (λ f. f, λ f. f)
takes_number o Steps n none on _ items = (λ f. f, λ f. f)

two_chosen : (m : Option ℕ) (default k n x : ℕ) (more : List ℕ) → m ≡ Some k → IsChosen default (listed m ++ n ∷ more) x → ⊥
two_chosen m default k n x more some (inl e) = let f : k ∷ n ∷ more ≡ x ∷ [] = ap (λ l. listed l ++ n ∷ more) (sym some) ∙ e in cc
two_chosen m default k n x more some (inr e) = let f : k ∷ n ∷ more ≡ [] = ap (λ l. listed l ++ n ∷ more) (sym some) ∙ e.0 in cc

pub one_number_alone : (o : Options) (t : Setting) (n k : ℕ) → named o t ≡ Some k → (c : Command) (items : List Item) → Complete o c (setting t n ∷ items) → ⊥
one_number_alone o Workers n k some (Run d w s r) items f = two_chosen o.workers 1 k n w (numbers Workers items) some f.chosen_workers
one_number_alone o Steps n k some (Run d w s r) items f = two_chosen o.steps (step_limit d) k n s (numbers Steps items) some f.chosen_steps
one_number_alone o t n k some _ items f = f

-- ---- the limit on steps

-- the number that stands first is the one that was named
named_steps : (m : Option ℕ) (default n x : ℕ) (more : List ℕ) → IsChosen default (listed m ++ n ∷ more) x → n ≡ x
named_steps None default n x more (inl e) = cc
named_steps None default n x more (inr e) = let f = e.0 in absurd (cc)
named_steps (Some k) default n x more (inl e) = absurd (cc)
named_steps (Some k) default n x more (inr e) = let f = e.0 in absurd (cc)

-- and the dimension that was named is that of the run
named_dimension : (m : Option ℕ) (d n : ℕ) (more : List ℕ) → listed m ++ more ≡ d ∷ [] → n ≤ step_limit d → IfSome m (λ k. n ≤ step_limit k)
named_dimension None d n more e few = tt
named_dimension (Some k) d n more e few = let same : k ≡ d = cc in subst (λ z. n ≤ step_limit z) (sym same) few

-- a number that goes on is within the limit of the dimension
pub number_in_limit : (o : Options) (t : Setting) (n : ℕ) (c : Command) (items : List Item) → Complete o c (setting t n ∷ items) → IsInLimit o t n
number_in_limit o Workers n c items f = tt
number_in_limit o Steps n (Run d w s r) items f =
    let same = named_steps o.steps (step_limit d) n s (numbers Steps items) f.chosen_steps in
    named_dimension o.d d n (dimensions items) f.one_dimension (subst (λ z. z ≤ step_limit d) (sym same) f.few)
number_in_limit o Steps n _ items f = absurd f

leaves : (m : Option ℕ) (default d x : ℕ) (more : List ℕ) → IsChosen default (listed m ++ more) x → x ≤ step_limit d → IfSome m (λ n. n ≤ step_limit d)
leaves None default d x more h few = tt
leaves (Some n) default d x more (inl e) few = let same : n ≡ x = cc in subst (λ z. z ≤ step_limit d) (sym same) few
leaves (Some n) default d x more (inr e) few = let f = e.0 in absurd (cc)

-- a dimension that goes on allows the steps that were named
pub dimension_leaves_steps : (o : Options) (x : ℕ) → o.d ≡ None → (c : Command) (items : List Item) → Complete o c (dimension x ∷ items) → LeavesSteps o x
dimension_leaves_steps o x none (Run d w s r) items f =
    let first : x ∷ dimensions items ≡ d ∷ [] = ap (λ m. listed m ++ x ∷ dimensions items) (sym none) ∙ f.one_dimension in
    let same : x ≡ d = cc in
    leaves o.steps (step_limit d) x s (numbers Steps items) f.chosen_steps (subst (λ z. s ≤ step_limit z) (sym same) f.few)
dimension_leaves_steps o x none _ items f = absurd f
