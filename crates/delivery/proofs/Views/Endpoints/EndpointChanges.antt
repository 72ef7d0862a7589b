-- Changes of one endpoint of a view, one after another.
use Rattle.delivery.proofs.Words.All.{◌≡◌, ℕ, ◌<◌, Bool, List, ◌++◌, length, get_or, set, take, Option, None, ap, ◌∙◌, Result, Ok, Err, OnErr, take-append_seam, get_or-set_same, set-set, length-set, set-get_or, OnOk, NoMemory, error_frame, spelling_of, ConnectionFault, connection_title, failed_endpoint, error_text, View, EndpointView, leaving_endpoint, written_endpoint}
use Rattle.std.specs.Result.{is_err}
use Rattle.delivery.specs.Inner.Nexts.{shortened_endpoint}

-- the view with this endpoint there
abbrev pub with_endpoint : View → ℕ → EndpointView → View
with_endpoint v c endpoint = record v { endpoints = set v.endpoints c endpoint }

-- an endpoint that was changed is changed again
pub endpoint_again : (v : View) (c : ℕ) (a : EndpointView) (f : EndpointView → EndpointView) (d : EndpointView) → c < length v.endpoints
    → with_endpoint (with_endpoint v c a) c (f (get_or (with_endpoint v c a).endpoints c d)) ≡ with_endpoint v c (f a)
endpoint_again v c a f d there =
    ap (λ (l : EndpointView). with_endpoint (with_endpoint v c a) c (f l)) (get_or-set_same v.endpoints c a d there)
    ∙ ap (λ (ls : List EndpointView). record v { endpoints = ls }) (set-set v.endpoints c a (f a))

-- a call that may write an endpoint writes it so
abbrev pub Writes : View → Result (Unit {0}) NoMemory → View → ℕ → List ℕ → Type 0
Writes v r w c text = OnOk r ((d : EndpointView) → w ≡ with_endpoint v c (written_endpoint text (get_or v.endpoints c d))) × OnErr r (w ≡ v)

-- there are as many endpoints then
pub written_length : (v w : View) (c : ℕ) (text : List ℕ) (r : Result (Unit {0}) NoMemory) (d : EndpointView) → Writes v r w c text → length w.endpoints ≡ length v.endpoints
written_length v w c text (Ok u) d h = ap (λ (x : View). length x.endpoints) (h.0 d) ∙ length-set v.endpoints c (written_endpoint text (get_or v.endpoints c d))
written_length v w c text (Err e) d h = ap (λ (x : View). length x.endpoints) h.1

-- an endpoint that is leaving after its ERROR was written, or left out
pub failed_view : (v w x : View) (c : ℕ) (text : List ℕ) (r : Result (Unit {0}) NoMemory) → c < length v.endpoints → Writes v r w c text
    → ((d : EndpointView) → x ≡ with_endpoint w c (leaving_endpoint None (get_or w.endpoints c d)))
    → (d : EndpointView) → x ≡ with_endpoint v c (failed_endpoint (is_err r) text (get_or v.endpoints c d))
failed_view v w x c text (Ok u) there h left d =
    left d ∙ (ap (λ (y : View). with_endpoint y c (leaving_endpoint None (get_or y.endpoints c d))) (h.0 d)
    ∙ endpoint_again v c (written_endpoint text (get_or v.endpoints c d)) (leaving_endpoint None) d there)
failed_view v w x c text (Err e) there h left d = left d ∙ ap (λ (y : View). with_endpoint y c (leaving_endpoint None (get_or y.endpoints c d))) h.1

-- the text of an ERROR with a fault's title
pub error_is : (fault : ConnectionFault) (receipt : Option (List ℕ)) (message : List ℕ) (version : Bool) → message ≡ connection_title fault
    → spelling_of (error_frame message receipt version) ≡ error_text fault receipt version
error_is fault receipt message version title = λ i. spelling_of (error_frame (title i) receipt version)

-- there are as many endpoints where one is another
pub changed_length : (v w : View) (c : ℕ) (endpoint : EndpointView) → w ≡ with_endpoint v c endpoint → length w.endpoints ≡ length v.endpoints
changed_length v w c endpoint is = ap (λ (x : View). length x.endpoints) is ∙ length-set v.endpoints c endpoint

-- what was written to an endpoint is taken back
pub taken_back : (v x y z : View) (c len : ℕ) (text : List ℕ) (r : Result (Unit {0}) NoMemory) (d : EndpointView) → c < length v.endpoints
    → len ≡ length (get_or v.endpoints c d).output → r ≡ Ok tt → Writes v r x c text → y ≡ x → z ≡ with_endpoint y c (shortened_endpoint len (get_or y.endpoints c d)) → z ≡ v
taken_back v x y z c len text (Err e) d there many ok wrote same is = absurd (cc)
taken_back v x y z c len text (Ok u) d there many ok wrote same is =
    let endpoint = get_or v.endpoints c d in
    let back : shortened_endpoint len (written_endpoint text endpoint) ≡ endpoint =
    λ i. record endpoint { output = (ap (λ (n : ℕ). take n (endpoint.output ++ text)) many ∙ take-append_seam endpoint.output text) i } in
    is
    ∙ (ap (λ (w : View). with_endpoint w c (shortened_endpoint len (get_or w.endpoints c d))) (same ∙ wrote.0 d)
    ∙ (endpoint_again v c (written_endpoint text endpoint) (shortened_endpoint len) d there
    ∙ (ap (λ (l : EndpointView). with_endpoint v c l) back
    ∙ ap (λ (ls : List EndpointView). record v { endpoints = ls }) (set-get_or v.endpoints c d))))
