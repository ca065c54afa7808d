-- The opening state meets the rule of a turn, and each kind of step keeps it.
use Rattle.std.proofs.Common.{◌≡◌, ℕ, zero, suc, ◌+◌, ◌-◌, ◌<◌, ◌≤◌, ◌≢◌, ◌⊎◌, eqb, eq-eqb, cond, Bool, true, false, List, [], ◌∷◌, ◌++◌, get_or, set, sym, refl, ap, ◌∙◌, subst, inl, inr, ⊎_elim, append-nil, arith}
use Rattle.std.specs.Prelude.{All, sum_by, count_by, nat_lt, Option, Some, unwrap_or}
use Rattle.std.proofs.lemmas.List.Elements.{All-nil, All-cons, All-head, All-tail, All-same, All-append, All-weaker}
use Rattle.std.proofs.lemmas.List.Sums.{sum_by-cons, sum_by-append}
use Rattle.std.proofs.lemmas.Bool.Decides.{nat_tests}
use mathlib.Core.Logic.{dite}
use mathlib.Core.Option.{none, some, some-injective, some-ne-none}
use native.Mathlib.Decide.{ℕ_discrete}
use lib.ListN.{get_elem?}
use prog.Atomic.{either}
use Rattle.atomic_table.specs.Table.{State, Me, Act, step, keeps, takes, gives, rest, put_back, carried_after, Valid, stepped, Allows, Splits, Joins, opening}
use Rattle.atomic_table.proofs.Lists.{at_set, set_here, set_else, at_longer, at_snoc, exchanged}
use Rattle.share_turn.specs.declared.view.Part.{Part}
use Rattle.share_turn.specs.declared.view.View.{View}
use Rattle.share_turn.specs.Annals.{entries_of, IsNumberedBelow, GoesOnBy}
use Rattle.share_turn.specs.View.{parts_of, bears, kept_by, keepers, took, looked, gave, rest_of, first_of, dealer, dealt, joined, spent, part_of, parts_from, first_view, Fits}
use Rattle.share_turn.specs.Rule.{IsHome, IsOut, IsKept}
use Rattle.share_turn.specs.Steps.{tries, gives_back}
use Rattle.share_turn.proofs.Totals.{place_within, one_at_place, sum_by-set_at, one_term_within, two_terms_within}
use Rattle.share_turn.proofs.Histories.{all_fit_longer}
use Rattle.share_turn.proofs.Takes.{upto, one_newer, above_none, later_below, taken_counts, same_counts, longer_counts, joined_counts}

pub at_most_one : (b : Bool) → cond b 1 0 ≤ 1
at_most_one true = omega arith
at_most_one false = omega arith

is_below : (k n : ℕ) → 1 ≤ cond (nat_lt k n) 1 0 → k < n
is_below k n some_one = grind (arith, nat_tests)

is_true : (b : Bool) → (b ≡ false → ⊥) → b ≡ true
is_true true never_false = refl
is_true false never_false = absurd (never_false refl)

-- true isn't false
never : {A : Type 0} (b : Bool) → b ≡ true → b ≡ false → A
never b is isn't = absurd (cc)

-- the value in a hand of one slot
abbrev hand_value : {T : Type 0} → T → List (ℕ × Option T) → T
hand_value d [] = d
hand_value d (x ∷ xs) = unwrap_or x.1 d

pub one_in_hand : {T : Type 0} (hand : List (ℕ × Option T)) (value other : T) → hand ≡ (0, Some value) ∷ [] → hand ≡ (0, Some other) ∷ [] → other ≡ value
one_in_hand hand value other is is' = ap (hand_value value) (sym is' ∙ is)

module _ {E : Type 0} where
  pub parts_of-active : (v : View E) → v.active ≡ true → parts_of v ≡ v.own ∷ v.kept
  parts_of-active v act = ap (λ b. cond b (v.own ∷ v.kept) []) act

  pub kept_by-active : (k : ℕ) (v : View E) → v.active ≡ true → kept_by k v ≡ cond (bears k v.own) 1 0 + count_by (bears k) v.kept
  kept_by-active k v act = ap (count_by (bears k)) (parts_of-active v act) ∙ sum_by-cons (λ p. cond (bears k p) 1 0) v.own v.kept

  -- an active seat keeps its own number once, and once more for each part beside it that bears it
  keeps_own : (v : View E) → v.active ≡ true → kept_by v.own.number v ≡ 1 + count_by (bears v.own.number) v.kept
  keeps_own v act =
      let n : ℕ = v.own.number in let x : ℕ = cond (bears n v.own) 1 0 in let one : x ≡ 1 = ap (λ (b : Bool). cond b 1 0) (eq-eqb n n refl) in
      let split : kept_by n v ≡ x + count_by (bears n) v.kept = kept_by-active n v act in omega arith

module _ {T E : Type 0} (entries : T → List E) (number : E → ℕ) (seats : ℕ) where
  abbrev V : Type 0
  V = View E

  abbrev St : Type 0
  St = State (Option T) V

  abbrev M : Type 0
  M = Me (Option T) V

  abbrev K : St → Type 0
  K = IsKept entries number seats

  -- what the rule says of the views
  record Seated (history : List E) (views : List V) : Type 0 where
    once : (k : ℕ) → keepers k views ≡ cond (nat_lt k seats) 1 0
    fitting : (i : ℕ) (v : V) → get_elem? views i ≡ some v → All (Fits number history) (parts_of v)
    counted : (i : ℕ) (v : V) → get_elem? views i ≡ some v → v.active ≡ true → v.seats ≡ seats

  seated : (s : St) (r : K s) → Seated r.history s.views
  seated s r = record { once = r.once; fitting = r.fitting; counted = r.counted }

  -- one view is replaced by another that keeps the same numbers
  reseated : (history : List E) (views : List V) (id : ℕ) (v w : V) → Seated history views → get_elem? views id ≡ some v → ((k : ℕ) → kept_by k w ≡ kept_by k v)
      → All (Fits number history) (parts_of w) → (w.active ≡ true → w.seats ≡ seats) → Seated history (set views id w)
  reseated history views id v w old at same fit count = record {
    once = λ k. let one : kept_by k w ≡ kept_by k v = same k in let was : keepers k views ≡ cond (nat_lt k seats) 1 0 = old.once k in
        let n : ℕ = cond (nat_lt k seats) 1 0 in let was' : keepers k views ≡ n = was in omega (arith, sum_by-set_at (kept_by k) views id v w at);
    fitting = λ i u e. ⊎_elim (λ t. subst (λ (x : V). All (Fits number history) (parts_of x)) t.1 fit) (λ t. old.fitting i u t.1) (at_set views id i w u e);
    counted = λ i u e. ⊎_elim (λ t. subst (λ (x : V). x.active ≡ true → x.seats ≡ seats) t.1 count) (λ t. old.counted i u t.1) (at_set views id i w u e);
  }

  abbrev Goes : St → ℕ → M → (ℕ → M → Type 0) → ℕ → Type 0
  Goes s id me told m = (w : V) × (a : Act (Option T)) × Valid s.homes me.1 a × K (stepped s 0 m id me.1 w a) × told (get_or s.words 0 0) (w, carried_after me.1 a)

  -- the seat with a part of its own and the parts beside it, where it is active
  own_parts : (s : St) (r : K s) (id : ℕ) (v : V) → get_elem? s.views id ≡ some v → v.active ≡ true → All (Fits number r.history) (v.own ∷ v.kept)
  own_parts s r id v at act = All-same (Fits number r.history) (v.own ∷ v.kept) (parts_of v) (sym (parts_of-active v act)) (r.fitting id v at)

  -- a seat without the value isn't the one that holds it
  idle_elsewhere : (s : St) (r : K s) (id : ℕ) (v : V) (o : IsOut entries number r.history r.takes s) → get_elem? s.views id ≡ some v → v.holding ≡ false → o.holder ≢ id
  idle_elsewhere s r id v o at idle is = never o.view.holding o.holds (ap (λ (x : V). x.holding) (one_at_place s.views id o.view v (subst (λ (n : ℕ). get_elem? s.views n ≡ some o.view) is o.sits) at) ∙ idle)

  -- a number that a seat keeps stands below the number of seats, and no other place keeps it
  own_is_below : (s : St) (r : K s) (id : ℕ) (v : V) → get_elem? s.views id ≡ some v → v.active ≡ true → v.own.number < seats
  own_is_below s r id v at act =
      let n : ℕ = v.own.number in let here : ℕ = kept_by n v in let all : ℕ = keepers n s.views in let most : ℕ = cond (nat_lt n seats) 1 0 in
      let split : here ≡ 1 + count_by (bears n) v.kept = keeps_own v act in
      let within : here ≤ all = one_term_within (kept_by n) s.views id v at in let is : all ≡ most = r.once n in is_below n seats (let g : 1 ≤ most = omega arith in g)

  own_alone : (s : St) (r : K s) (id : ℕ) (v : V) → get_elem? s.views id ≡ some v → v.active ≡ true → count_by (bears v.own.number) v.kept ≡ 0
  own_alone s r id v at act =
      let n : ℕ = v.own.number in let here : ℕ = kept_by n v in let all : ℕ = keepers n s.views in let most : ℕ = cond (nat_lt n seats) 1 0 in
      let split : here ≡ 1 + count_by (bears n) v.kept = keeps_own v act in
      let within : here ≤ all = one_term_within (kept_by n) s.views id v at in let is : all ≡ most = r.once n in let small : most ≤ 1 = at_most_one (nat_lt n seats) in omega arith

  not_elsewhere : (s : St) (r : K s) (id i : ℕ) (v u : V) → get_elem? s.views id ≡ some v → v.active ≡ true → i ≢ id → get_elem? s.views i ≡ some u → kept_by v.own.number u ≡ 0
  not_elsewhere s r id i v u at act ne at_i =
      let n : ℕ = v.own.number in let here : ℕ = kept_by n v in let there : ℕ = kept_by n u in let all : ℕ = keepers n s.views in let most : ℕ = cond (nat_lt n seats) 1 0 in
      let split : here ≡ 1 + count_by (bears n) v.kept = keeps_own v act in
      let within : there + here ≤ all = two_terms_within (kept_by n) s.views i id u v ne at_i at in let is : all ≡ most = r.once n in let small : most ≤ 1 = at_most_one (nat_lt n seats) in omega arith

  -- a seat beside the one that holds the value is one of two at least
  two_seats : (s : St) (r : K s) (id : ℕ) (v : V) (o : IsOut entries number r.history r.takes s) → get_elem? s.views id ≡ some v → v.active ≡ true → v.last_take < r.takes → o.holder ≢ id → 1 < seats
  two_seats s r id v o at act below ne =
      let u : V = o.view in
      let act' : u.active ≡ true = is_true u.active (λ no. let a : ℕ = u.last_take in let b : ℕ = v.last_take in
      let none : a ≡ 0 = r.counts.spent_has_none o.holder u o.sits no in let newest : a ≡ r.takes = o.is_newest in let less : b < r.takes = below in absurd (omega arith)) in
      let n : ℕ = v.own.number in let m : ℕ = u.own.number in let first : n < seats = own_is_below s r id v at act in let second : m < seats = own_is_below s r o.holder u o.sits act' in
      let apart : n ≢ m = λ same. let x : ℕ = kept_by m u in let none : x ≡ 0 = subst (λ (k : ℕ). kept_by k u ≡ 0) same (not_elsewhere s r id o.holder v u at act ne o.sits) in
      let some_one : x ≡ 1 + count_by (bears m) u.kept = keeps_own u act' in omega arith in
      omega arith

  -- Kind 1 where the value is at home.
  taken : (slots : ℕ) (s : St) (r : K s) (id : ℕ) (me : M) → IsHome entries number r.history s → get_elem? s.views id ≡ some me.0 → me.0.active ≡ true
      → Goes s id me (tries entries number (step slots 0 0 1 none) me) 1
  taken slots s r id me h at act =
      let take : ℕ = r.takes + 1 in let known = r.counts.within id me.0 at in
      let w : V = took me.0 (entries h.value) take in let H : List E = r.history in
      let parts = own_parts s r id me.0 at act in
      let own : Fits number H w.own = record { own_entries = (All-head (Fits number H) me.0.own me.0.kept parts).own_entries; begins = ([], append-nil (entries h.value) ∙ h.entries_are) } in
      let fit : All (Fits number H) (parts_of w) = All-same (Fits number H) (parts_of w) (w.own ∷ w.kept) (parts_of-active w act) (All-cons (Fits number H) w.own w.kept own (All-tail (Fits number H) me.0.own me.0.kept parts)) in
      let new = reseated H s.views id me.0 w (seated s r) at (λ k. kept_by-active k w act ∙ sym (kept_by-active k me.0 act)) fit (r.counted id me.0 at) in
      let zero_word : get_or s.words 0 0 ≡ 0 = ap (λ (l : List ℕ). get_or l 0 0) h.word in (
        w,
        takes 0 (Some h.value),
        ap (λ (l : List _). get_elem? l 0) h.slot,
        record {
          history = H;
          takes = take;
          counts = taken_counts r.takes s.views id me.0 w r.counts at refl refl act;
          place = inr record {
            word = ap (λ (l : List ℕ). set l 0 1) h.word;
            slot = ap (λ (l : List _). set l 0 none) h.slot;
            holder = id;
            view = w;
            sits = set_here s.views id w (place_within s.views id me.0 at);
            holds = refl;
            has_seen = h.entries_are;
            others = λ i v e ne. h.none_holds i v (sym (set_else s.views id i w ne) ∙ e);
            is_newest = refl;
            earlier = λ i v e ne. one_newer v.last_take r.takes (r.counts.within i v (sym (set_else s.views id i w ne) ∙ e)).0;
          };
          once = new.once;
          numbered = r.numbered;
          fitting = new.fitting;
          counted = new.counted;
        },
        (
          (λ _. record {
            value = h.value;
            hand = refl;
            take = take;
            view = refl;
            newer = (one_newer me.0.last_take r.takes known.0, one_newer me.0.met_take r.takes known.1);
            fitting = subst (λ (l : List E). All (Fits number l) (parts_of me.0)) (sym h.entries_are) (r.fitting id me.0 at);
            numbered = subst (λ (t : ℕ × List E). IsNumberedBelow number t.0 t.1) (λ k. (sym (r.counted id me.0 at act) k, sym h.entries_are k)) r.numbered;
          }),
          λ miss. absurd (miss zero_word),
        ),
      )

  -- Kind 1 where the value is out.
  missed : (slots : ℕ) (s : St) (r : K s) (id : ℕ) (me : M) → IsOut entries number r.history r.takes s → get_elem? s.views id ≡ some me.0 → me.0.active ≡ true → me.0.holding ≡ false
      → Goes s id me (tries entries number (step slots 0 0 1 none) me) (get_or s.words 0 0)
  missed slots s r id me out at act idle =
      let y : ℕ = get_or s.words 0 0 in let one : y ≡ 1 = ap (λ (l : List ℕ). get_or l 0 0) out.word in
      let w : V = looked me.0 1 r.takes in let H : List E = r.history in
      let fit : All (Fits number H) (parts_of w) = r.fitting id me.0 at in
      let new = reseated H s.views id me.0 w (seated s r) at (λ k. refl) fit (r.counted id me.0 at) in
      let ne : out.holder ≢ id = idle_elsewhere s r id me.0 out at idle in
      let below : me.0.last_take < r.takes = out.earlier id me.0 at (λ is. ne (sym is)) in
      let several : 1 < me.0.seats = subst (λ (n : ℕ). 1 < n) (sym (r.counted id me.0 at act)) (two_seats s r id me.0 out at act below ne) in (
        w,
        keeps,
        tt,
        record {
          history = H;
          takes = r.takes;
          counts = same_counts r.takes s.views id me.0 w r.counts at refl (upto r.takes) refl;
          place = inr record {
            word = ap (λ (l : List ℕ). set l 0 y) out.word ∙ ap (λ (n : ℕ). n ∷ []) one;
            slot = out.slot;
            holder = out.holder;
            view = out.view;
            sits = set_else s.views id out.holder w ne ∙ out.sits;
            holds = out.holds;
            has_seen = out.has_seen;
            others = λ i v e apart. ⊎_elim (λ t. ap (λ (x : V). x.holding) (sym t.1) ∙ idle) (λ t. out.others i v t.1 apart) (at_set s.views id i w v e);
            is_newest = out.is_newest;
            earlier = λ i v e apart. ⊎_elim (λ t. subst (λ (x : V). x.last_take < r.takes) t.1 below) (λ t. out.earlier i v t.1 apart) (at_set s.views id i w v e);
          };
          once = new.once;
          numbered = r.numbered;
          fitting = new.fitting;
          counted = new.counted;
        },
        ((λ hit. absurd (let z : y ≡ 0 = hit in omega arith)), λ _. (one, (r.takes, below, (r.counts.within id me.0 at).1, several, refl))),
      )

  pub tries_keep : (slots id : ℕ) (me : M) → me.0.active ≡ true → me.0.holding ≡ false
      → Allows K slots id me 0 (λ y. either (eqb y 0) 1 y) (tries entries number (step slots 0 0 1 none) me)
  tries_keep slots id me act idle s r wide at small =
      let y : ℕ = get_or s.words 0 0 in let told = tries entries number (step slots 0 0 1 none) me in
      exchanged y 0 1 (Goes s id me told)
      (λ hit. ⊎_elim (λ h. taken slots s r id me h at act) (λ out. absurd (let one : y ≡ 1 = ap (λ (l : List ℕ). get_or l 0 0) out.word in let z : y ≡ 0 = hit in omega arith)) r.place)
      (λ miss. ⊎_elim (λ h. absurd (miss (ap (λ (l : List ℕ). get_or l 0 0) h.word))) (λ out. missed slots s r id me out at act idle) r.place)

  -- Kind 2.
  given : (slots : ℕ) (s : St) (r : K s) (id : ℕ) (me : M) (value : T) → (out : IsOut entries number r.history r.takes s) → get_elem? s.views id ≡ some me.0 → me.0.active ≡ true → out.holder ≡ id
      → me.1 ≡ (0, Some value) ∷ [] → GoesOnBy number me.0.own.number me.0.own.seen (entries value)
      → Goes s id me (λ _ m. gives_back entries number (step slots 0 0 0 none) me 0 m) 0
  given slots s r id me value out at act is hand more =
      let H : List E = r.history in let n : ℕ = me.0.own.number in let w : V = gave number me.0 (entries value) in let added : List E = more.0 in
      let same : out.view ≡ me.0 = one_at_place s.views id out.view me.0 (subst (λ (k : ℕ). get_elem? s.views k ≡ some out.view) is out.sits) at in
      let all_seen : me.0.own.seen ≡ H = ap (λ (v : V). v.own.seen) (sym same) ∙ out.has_seen in
      let grown : entries value ≡ H ++ added = more.1 ∙ ap (λ (l : List E). l ++ added) all_seen in
      let parts = own_parts s r id me.0 at act in
      let beside : All (Fits number (entries value)) me.0.kept = subst (λ (l : List E). All (Fits number l) me.0.kept) (sym grown)
      (all_fit_longer number n H added more.2 me.0.kept (own_alone s r id me.0 at act) (All-tail (Fits number H) me.0.own me.0.kept parts)) in
      let own : Fits number (entries value) w.own = record { own_entries = refl; begins = ([], append-nil (entries value)) } in
      let fit : All (Fits number (entries value)) (parts_of w) = All-same (Fits number (entries value)) (parts_of w) (w.own ∷ w.kept) (parts_of-active w act) (All-cons (Fits number (entries value)) w.own w.kept own beside) in
      let elsewhere : (i : ℕ) (u : V) → i ≢ id → get_elem? s.views i ≡ some u → All (Fits number (entries value)) (parts_of u) = λ i u ne e. subst (λ (l : List E). All (Fits number l) (parts_of u)) (sym grown)
      (all_fit_longer number n H added more.2 (parts_of u) (not_elsewhere s r id i me.0 u at act ne e) (r.fitting i u e)) in
      let sum = reseated H s.views id me.0 me.0 (seated s r) at (λ k. refl) (r.fitting id me.0 at) (r.counted id me.0 at) in
      let below : n < seats = own_is_below s r id me.0 at act in
      let Below : E → Type 0 = λ e. number e < seats in
      let added_below : All Below added = All-weaker (λ e. number e ≡ n) Below (λ e (p : number e ≡ n). let q : number e ≡ n = p in omega arith) added more.2 in (
        w,
        gives,
        tt,
        record {
          history = entries value;
          takes = r.takes;
          counts = same_counts r.takes s.views id me.0 w r.counts at refl (r.counts.within id me.0 at).1 refl;
          place = inl record {
            word = ap (λ (l : List ℕ). set l 0 0) out.word;
            value = value;
            slot = ap (λ (c : List (ℕ × Option T)). put_back s.homes c) hand ∙ ap (λ (l : List _). set l 0 (some (Some value))) out.slot;
            entries_are = refl;
            none_holds = λ i u e. ⊎_elim (λ t. ap (λ (v : V). v.holding) (sym t.1)) (λ t. out.others i u t.1 (λ k. t.0 (k ∙ is))) (at_set s.views id i w u e);
          };
          once = λ k. let one : kept_by k w ≡ kept_by k me.0 = kept_by-active k w act ∙ sym (kept_by-active k me.0 act) in let was : keepers k s.views ≡ cond (nat_lt k seats) 1 0 = r.once k in
              let most : ℕ = cond (nat_lt k seats) 1 0 in let was' : keepers k s.views ≡ most = was in omega (arith, sum_by-set_at (kept_by k) s.views id me.0 w at);
          numbered = All-same Below (entries value) (H ++ added) grown (All-append Below H added r.numbered added_below);
          fitting = λ i u e. ⊎_elim (λ t. subst (λ (x : V). All (Fits number (entries value)) (parts_of x)) t.1 fit) (λ t. elsewhere i u t.0 t.1) (at_set s.views id i w u e);
          counted = λ i u e. ⊎_elim (λ t. subst (λ (x : V). x.active ≡ true → x.seats ≡ seats) t.1 (r.counted id me.0 at)) (λ t. r.counted i u t.1) (at_set s.views id i w u e);
        },
        λ value' hand'. let one : value' ≡ value = one_in_hand me.1 value value' hand hand' in (
          (λ k. (gave number me.0 (entries (sym one k)), ap rest hand k)),
          (All-head (Fits number H) me.0.own me.0.kept parts).own_entries ∙ ap (entries_of number n) (sym all_seen),
        ),
      )

  pub gives_keep : (slots id : ℕ) (me : M) (value : T) → me.0.active ≡ true → me.0.holding ≡ true → me.1 ≡ (0, Some value) ∷ [] → GoesOnBy number me.0.own.number me.0.own.seen (entries value)
      → Allows K slots id me 0 (λ _. 0) (λ _ m. gives_back entries number (step slots 0 0 0 none) me 0 m)
  gives_keep slots id me value act holds hand more s r wide at small =
      ⊎_elim (λ h. never me.0.holding holds (h.none_holds id me.0 at))
      (λ out. dite (ℕ_discrete out.holder id) (λ is. given slots s r id me value out at act is hand more) (λ ne. never me.0.holding holds (out.others id me.0 at (λ e. ne (sym e))))) r.place

  -- Kind 3. The seats' parts stay as they are, one of them at another place.
  pub deals_keep : (id : ℕ) (v : V) (p : Part E) (ps : List (Part E)) → v.active ≡ true → v.holding ≡ false → v.kept ≡ p ∷ ps → Splits K id v (dealer v) (dealt v)
  deals_keep id v p ps act idle kept s r at =
      let H : List E = r.history in let w : V = dealer v in let u : V = dealt v in let views : List V = set s.views id w in
      let parts = own_parts s r id v at act in
      let rest_is : w.kept ≡ ps = ap rest_of kept in let first_is : u.own ≡ p = ap (first_of v.own) kept in
      let beside : All (Fits number H) (p ∷ ps) = All-same (Fits number H) (p ∷ ps) v.kept (sym kept) (All-tail (Fits number H) v.own v.kept parts) in
      let fit_w : All (Fits number H) (parts_of w) = All-same (Fits number H) (parts_of w) (v.own ∷ w.kept) (parts_of-active w act)
      (All-cons (Fits number H) v.own w.kept (All-head (Fits number H) v.own v.kept parts) (All-same (Fits number H) w.kept ps rest_is (All-tail (Fits number H) p ps beside))) in
      let fit_u : All (Fits number H) (parts_of u) = All-same (Fits number H) (parts_of u) (p ∷ []) (ap (λ (q : Part E). q ∷ []) first_is)
      (All-cons (Fits number H) p [] (All-head (Fits number H) p ps beside) (All-nil (Fits number H))) in
      let count : v.seats ≡ seats = r.counted id v at act in record {
        history = H;
        takes = r.takes;
        counts = longer_counts r.takes views u (same_counts r.takes s.views id v w r.counts at refl (r.counts.within id v at).1 refl) refl refl;
        place = ⊎_elim
            (λ h. inl record {
              word = h.word;
              value = h.value;
              slot = h.slot;
              entries_are = h.entries_are;
              none_holds = λ i x e. ⊎_elim (λ z. ⊎_elim (λ t. ap (λ (y : V). y.holding) (sym t.1) ∙ idle) (λ t. h.none_holds i x t.1) (at_set s.views id i w x z)) (λ z. ap (λ (y : V). y.holding) (sym z)) (at_snoc views u x i e);
            })
            (λ o. let ne : o.holder ≢ id = idle_elsewhere s r id v o at idle in inr record {
              word = o.word;
              slot = o.slot;
              holder = o.holder;
              view = o.view;
              sits = at_longer views (u ∷ []) o.holder o.view (set_else s.views id o.holder w ne ∙ o.sits);
              holds = o.holds;
              has_seen = o.has_seen;
              others = λ i x e apart. ⊎_elim (λ z. ⊎_elim (λ t. ap (λ (y : V). y.holding) (sym t.1) ∙ idle) (λ t. o.others i x t.1 apart) (at_set s.views id i w x z)) (λ z. ap (λ (y : V). y.holding) (sym z)) (at_snoc views u x i e);
              is_newest = o.is_newest;
              earlier = λ i x e apart. let below : v.last_take < r.takes = o.earlier id v at (λ is. ne (sym is)) in
                  ⊎_elim (λ z. ⊎_elim (λ t. subst (λ (y : V). y.last_take < r.takes) t.1 below) (λ t. o.earlier i x t.1 apart) (at_set s.views id i w x z))
                  (λ z. subst (λ (y : V). y.last_take < r.takes) z (above_none v.last_take r.takes below)) (at_snoc views u x i e);
            })
            r.place;
        once = λ k.
            let a : ℕ = cond (bears k v.own) 1 0 in let b : ℕ = cond (bears k p) 1 0 in let c : ℕ = count_by (bears k) ps in let f : Part E → ℕ = λ q. cond (bears k q) 1 0 in
            let was : kept_by k v ≡ a + (b + c) = kept_by-active k v act ∙ ap (λ (n : ℕ). a + n) (ap (count_by (bears k)) kept ∙ sum_by-cons f p ps) in
            let left : kept_by k w ≡ a + c = kept_by-active k w act ∙ ap (λ (n : ℕ). a + n) (ap (count_by (bears k)) rest_is) in
            let right : kept_by k u ≡ b + 0 = ap (λ (q : Part E). sum_by f (q ∷ [])) first_is ∙ sum_by-cons f p [] in
            let most : ℕ = cond (nat_lt k seats) 1 0 in let before : keepers k s.views ≡ most = r.once k in
            let single : sum_by (kept_by k) (u ∷ []) ≡ kept_by k u + 0 = sum_by-cons (kept_by k) u [] in
            omega (arith, sum_by-append (kept_by k) views (u ∷ []), sum_by-set_at (kept_by k) s.views id v w at);
        numbered = r.numbered;
        fitting = λ i x e. ⊎_elim (λ z. ⊎_elim (λ t. subst (λ (y : V). All (Fits number H) (parts_of y)) t.1 fit_w) (λ t. r.fitting i x t.1) (at_set s.views id i w x z))
            (λ z. subst (λ (y : V). All (Fits number H) (parts_of y)) z fit_u) (at_snoc views u x i e);
        counted = λ i x e. ⊎_elim (λ z. ⊎_elim (λ t. λ _. ap (λ (y : V). y.seats) (sym t.1) ∙ count) (λ t. r.counted i x t.1) (at_set s.views id i w x z))
            (λ z. λ _. ap (λ (y : V). y.seats) (sym z) ∙ count) (at_snoc views u x i e);
      }

  -- Kind 4. One seat keeps the parts of both, and the other none.
  pub joins_keep : (id : ℕ) (v : V) (other : ℕ) (w : V) → v.active ≡ true → v.holding ≡ false → w.active ≡ true → w.holding ≡ false → Joins K id v other w (joined v w) spent
  joins_keep id v other w act idle act' idle' s r at two at' =
      let H : List E = r.history in let b : V = joined v w in let views : List V = set s.views id b in
      let there : get_elem? s.views other ≡ some w = sym (set_else s.views id other b two) ∙ at' in
      let parts = own_parts s r id v at act in let parts' = own_parts s r other w there act' in
      let fit : All (Fits number H) (parts_of b) = All-same (Fits number H) (parts_of b) (v.own ∷ b.kept) (parts_of-active b act)
      (All-cons (Fits number H) v.own b.kept (All-head (Fits number H) v.own v.kept parts)
      (All-cons (Fits number H) w.own (w.kept ++ v.kept) (All-head (Fits number H) w.own w.kept parts')
      (All-append (Fits number H) w.kept v.kept (All-tail (Fits number H) w.own w.kept parts') (All-tail (Fits number H) v.own v.kept parts)))) in
      let count : v.seats ≡ seats = r.counted id v at act in
      let holding : (i : ℕ) (x : V) → get_elem? (set views other spent) i ≡ some x → (x.holding ≡ false) ⊎ (get_elem? s.views i ≡ some x) = λ i x e.
      ⊎_elim (λ t. inl (ap (λ (y : V). y.holding) (sym t.1))) (λ t. ⊎_elim (λ z. inl (ap (λ (y : V). y.holding) (sym z.1) ∙ idle)) (λ z. inr z.1) (at_set s.views id i b x t.1)) (at_set views other i spent x e) in record {
        history = H;
        takes = r.takes;
        counts = joined_counts r.takes s.views id v other w r.counts at there two act;
        place = ⊎_elim
            (λ h. inl record {
              word = h.word;
              value = h.value;
              slot = h.slot;
              entries_are = h.entries_are;
              none_holds = λ i x e. ⊎_elim (λ z. z) (λ z. h.none_holds i x z) (holding i x e);
            })
            (λ o. let ne : o.holder ≢ id = idle_elsewhere s r id v o at idle in let ne' : o.holder ≢ other = idle_elsewhere s r other w o there idle' in inr record {
              word = o.word;
              slot = o.slot;
              holder = o.holder;
              view = o.view;
              sits = set_else views other o.holder spent ne' ∙ (set_else s.views id o.holder b ne ∙ o.sits);
              holds = o.holds;
              has_seen = o.has_seen;
              others = λ i x e apart. ⊎_elim (λ z. z) (λ z. o.others i x z apart) (holding i x e);
              is_newest = o.is_newest;
              earlier = λ i x e apart.
                  let below : v.last_take < r.takes = o.earlier id v at (λ is. ne (sym is)) in let below' : w.last_take < r.takes = o.earlier other w there (λ is. ne' (sym is)) in
                  ⊎_elim (λ t. subst (λ (y : V). y.last_take < r.takes) t.1 (above_none v.last_take r.takes below))
                  (λ t. ⊎_elim (λ z. subst (λ (y : V). y.last_take < r.takes) z.1 (later_below v.last_take w.last_take r.takes below below')) (λ z. o.earlier i x z.1 apart) (at_set s.views id i b x t.1))
                  (at_set views other i spent x e);
            })
            r.place;
        once = λ k.
            let f : Part E → ℕ = λ q. cond (bears k q) 1 0 in let a : ℕ = f v.own in let c : ℕ = count_by (bears k) v.kept in let d : ℕ = f w.own in let e : ℕ = count_by (bears k) w.kept in
            let one : kept_by k v ≡ a + c = kept_by-active k v act in let two' : kept_by k w ≡ d + e = kept_by-active k w act' in
            let both : kept_by k b ≡ a + (d + (e + c)) = kept_by-active k b act ∙ ap (λ (n : ℕ). a + n) (sum_by-cons f w.own (w.kept ++ v.kept) ∙ ap (λ (n : ℕ). d + n) (sum_by-append f w.kept v.kept)) in
            let gone : kept_by k (spent {E = E}) ≡ 0 = refl in
            let most : ℕ = cond (nat_lt k seats) 1 0 in let before : keepers k s.views ≡ most = r.once k in
            omega (arith, sum_by-set_at (kept_by k) views other w spent at', sum_by-set_at (kept_by k) s.views id v b at);
        numbered = r.numbered;
        fitting = λ i x e. ⊎_elim (λ t. subst (λ (y : V). All (Fits number H) (parts_of y)) t.1 (All-nil (Fits number H)))
            (λ t. ⊎_elim (λ z. subst (λ (y : V). All (Fits number H) (parts_of y)) z.1 fit) (λ z. r.fitting i x z.1) (at_set s.views id i b x t.1)) (at_set views other i spent x e);
        counted = λ i x e. ⊎_elim (λ t. λ yes'. never x.active yes' (ap (λ (y : V). y.active) (sym t.1)))
            (λ t. ⊎_elim (λ z. λ _. ap (λ (y : V). y.seats) (sym z.1) ∙ count) (λ z. r.counted i x z.1) (at_set s.views id i b x t.1)) (at_set views other i spent x e);
      }

-- The start.
module _ {T E : Type 0} (entries : T → List E) (number : E → ℕ) where
  one_more : (k a : ℕ) → cond (eqb a k) 1 0 + cond (nat_lt k a) 1 0 ≡ cond (nat_lt k (suc a)) 1 0
  one_more k a = grind (arith, nat_tests)

  -- each number from a on is kept once among the n parts from a on
  parts_from-count : (history : List E) (k a n : ℕ) → count_by (bears k) (parts_from number history a n) + cond (nat_lt k a) 1 0 ≡ cond (nat_lt k (a + n)) 1 0
  parts_from-count history k a zero =
      let e : a ≡ a + 0 = omega arith in let one : cond {A = ℕ} (nat_lt k a) 1 0 ≡ cond (nat_lt k (a + 0)) 1 0 = ap (λ (m : ℕ). cond {A = ℕ} (nat_lt k m) 1 0) e in omega (arith, one)
  parts_from-count history k a (suc n) =
      let e : suc a + n ≡ a + suc n = omega arith in
      let later : count_by (bears k) (parts_from number history (suc a) n) + cond (nat_lt k (suc a)) 1 0 ≡ cond (nat_lt k (a + suc n)) 1 0 = parts_from-count history k (suc a) n ∙ ap (λ (m : ℕ). cond {A = ℕ} (nat_lt k m) 1 0) e in
      omega (arith, sum_by-cons (λ p. cond {A = ℕ} (bears k p) 1 0) (part_of number history a) (parts_from number history (suc a) n), one_more k a, later)

  parts_from-fit : (history : List E) (a n : ℕ) → All (Fits number history) (parts_from number history a n)
  parts_from-fit history a zero = All-nil (Fits number history)
  parts_from-fit history a (suc n) = All-cons (Fits number history) (part_of number history a) (parts_from number history (suc a) n) record { own_entries = refl; begins = ([], append-nil history) } (parts_from-fit history (suc a) n)

  only_one : (v x : View E) (i : ℕ) → get_elem? (v ∷ []) i ≡ some x → v ≡ x
  only_one v x zero e = some-injective v x e
  only_one v x (suc i) e = absurd (some-ne-none x (sym e))

  pub opens : (seats : ℕ) (value : T) → 1 ≤ seats → IsNumberedBelow number seats (entries value)
      → IsKept entries number seats (opening (0 ∷ []) (Some value ∷ []) (first_view number seats (entries value)))
  opens seats value some_seat below =
      let H : List E = entries value in let v : View E = first_view number seats H in record {
        history = H;
        takes = 0;
        counts = record {
          within = λ i x e. subst (λ (y : View E). (y.last_take ≤ 0) × (y.met_take ≤ 0)) (only_one v x i e) (upto 0, upto 0);
          newest = inl refl;
          spent_has_none = λ i x e no. ap (λ (y : View E). y.last_take) (sym (only_one v x i e));
        };
        place = inl record { word = refl; value = value; slot = refl; entries_are = refl; none_holds = λ i x e. ap (λ (y : View E). y.holding) (sym (only_one v x i e)) };
        once = λ k.
            let single : sum_by (kept_by k) (v ∷ []) ≡ kept_by k v + 0 = sum_by-cons (kept_by k) v [] in
            let split : kept_by k v ≡ cond (eqb 0 k) 1 0 + count_by (bears k) v.kept = kept_by-active k v refl in
            let m : ℕ = seats - 1 in let whole : 1 + m ≡ seats = omega arith in
            let others : count_by (bears k) v.kept + cond (nat_lt k 1) 1 0 ≡ cond (nat_lt k seats) 1 0 = parts_from-count H k 1 m ∙ ap (λ (n : ℕ). cond {A = ℕ} (nat_lt k n) 1 0) whole in
            let first : cond (eqb 0 k) 1 0 + cond (nat_lt k 0) 1 0 ≡ cond (nat_lt k 1) 1 0 = one_more k 0 in
            let none_below : cond {A = ℕ} (nat_lt k 0) 1 0 ≡ 0 = grind (arith, nat_tests) in
            omega (arith, single, split, others, first, none_below);
        numbered = below;
        fitting = λ i x e. subst (λ (y : View E). All (Fits number H) (parts_of y)) (only_one v x i e)
            (All-cons (Fits number H) v.own v.kept record { own_entries = refl; begins = ([], append-nil H) } (parts_from-fit H 1 (seats - 1)));
        counted = λ i x e _. ap (λ (y : View E). y.seats) (sym (only_one v x i e));
      }
