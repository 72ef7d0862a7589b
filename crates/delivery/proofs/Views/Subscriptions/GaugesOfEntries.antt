-- What is found by a subscription's number in its topic's group: its gauge, and what its queue shows.
use Rattle.delivery.proofs.Words.All.{◌≡◌, ℕ, ◌==◌, Bool, true, false, cond, List, [], ◌∷◌, map, Option, Some, None, inl, inr, refl, sym, ap, ◌∙◌, eq-eqb, is_some, option_map, eqb-true, true≢false, cases_Bool, In, Gauge, shows, shown_with, shown_at, gauge_at, TopicState, Entry, find_entry, not_true, World, group_view, queue_gauge}

-- the gauge that is found is that of the entry that is found
pub gauge_is : (gauge : ℕ → Gauge) (n : ℕ) (es : List Entry) → gauge_at n es (map (λ e. gauge e.number) es) ≡ option_map (λ e. gauge n) (find_entry n es)
gauge_is gauge n [] = refl
gauge_is gauge n (e ∷ es) =
    let rest = gauge_at n es (map (λ x. gauge x.number) es) in
    elim (cases_Bool (n == e.number)) [
      | inl t ↦
          let same : n ≡ e.number = eqb-true n e.number t in
          ap (λ (b : Bool). cond b (Some (gauge e.number)) rest) t
          ∙ (ap (λ (m : ℕ). Some (gauge m)) (sym same)
          ∙ sym (ap (λ (b : Bool). option_map (λ (x : Entry). gauge n) (cond b (Some e) (find_entry n es))) (eq-eqb e.number n (sym same))))
      | inr off ↦
          let other : (e.number == n) ≡ false =
          not_true (e.number == n) refl (λ same. true≢false (sym (eq-eqb n e.number (sym (eqb-true e.number n same))) ∙ off)) in
          ap (λ (b : Bool). cond b (Some (gauge e.number)) rest) off
          ∙ (gauge_is gauge n es
          ∙ sym (ap (λ (b : Bool). option_map (λ (x : Entry). gauge n) (cond b (Some e) (find_entry n es))) other))
    ]

-- an entry of this number is found where one is among them
found_there : (n : ℕ) (es : List Entry) (f : Entry) → In f es → n ≡ f.number → is_some (find_entry n es) ≡ true
found_there n [] f here same = absurd here
found_there n (e ∷ es) f here same = by_number (e.number == n) refl (λ later. found_there n es f later same) here
  where
    by_number : (b : Bool) → (e.number == n) ≡ b → (In f es → is_some (find_entry n es) ≡ true) → In f (e ∷ es) → is_some (cond b (Some e) (find_entry n es)) ≡ true
    by_number true k found i = refl
    by_number false k found (inl first) = absurd (true≢false (sym (eq-eqb e.number n (ap (λ (x : Entry). x.number) first ∙ sym same)) ∙ k))
    by_number false k found (inr later) = found later

-- so its gauge is that of the number
pub gauge_found : (gauge : ℕ → Gauge) (es : List Entry) (n : ℕ) (f : Entry) → In f es → n ≡ f.number → gauge_at n es (map (λ e. gauge e.number) es) ≡ Some (gauge n)
gauge_found gauge es n f here same = gauge_is gauge n es ∙ (elim (find_entry n es) as (λ (o : Option Entry). is_some o ≡ true → option_map (λ (e : Entry). gauge n) o ≡ Some (gauge n)) [ None ↦ λ some. absurd (true≢false (sym some)) | Some e ↦ λ some. refl ]) (found_there n es f here same)

-- what a queue shows is what its entry and its number say
pub shown_is : (w : World) (s : ℕ) (x : TopicState)
    → shown_at s (group_view w x) ≡ shown_with (find_entry s x.subscriptions) (option_map (λ (e : Entry). queue_gauge w s) (find_entry s x.subscriptions))
shown_is w s x = ap (λ (gauge : Option Gauge). shown_with (find_entry s x.subscriptions) gauge) (gauge_is (queue_gauge w) s x.subscriptions)

-- so it shows this entry, where it is the one that is found
pub shown_found : (w : World) (s : ℕ) (x : TopicState) (e : Entry) → find_entry s x.subscriptions ≡ Some e → shown_at s (group_view w x) ≡ Some (shows e (queue_gauge w s))
shown_found w s x e is = shown_is w s x ∙ ap (λ (o : Option Entry). shown_with o (option_map (λ (f : Entry). queue_gauge w s) o)) is
