-- A text is loaded exactly when it obeys the language.
use Rattle.std.proofs.Common.{◌≡◌, ℕ, ◌≤◌, Bool, true, false, cond, eqb, ltb, List, [], ◌∷◌, length, Ok, Err, Result, sym, refl, ap, ◌∙◌, subst, arith}
use Rattle.std.proofs.lemmas.Bool.{ltb-false, le-ltb, eqb-true}
use Rattle.tokens.specs.Scanning.{scanned, tokens_by, tokens_from}
use Rattle.plan.specs.declared.rows.Name.{Name}
use Rattle.plan.specs.Drafts.{Draft, blank}
use Rattle.plan.specs.declared.plan.Plan.{Plan}
use Rattle.plan.specs.Plans.{draft_of}
use Rattle.refusals.specs.declared.fault.LoadFault.{LoadFault}
use Rattle.refusals.specs.declared.fault.LoadFault.TheVariants.{NoBytes, TooManyBytes}
use Rattle.refusals.proofs.Passing.{no_fault}
use Rattle.plan_file.specs.File.{file_in}
use Rattle.language.specs.Standing.{Known, known}
use Rattle.language.specs.Obeying.{Obeys}
use Rattle.language.proofs.File.{file_sound, file_complete}
use Rattle.load.specs.Loading.{loaded, verdict, Loads}
use Rattle.load.specs.Law.{ExactlyObeying, AcceptsObeying}
use Rattle.load.proofs.Filled.{read_whole}

-- of a text that is loaded the size is allowed, and all of it was read
loaded_read : (text : List ℕ) (x : Name × Draft) → loaded text ≡ Ok x → (length text ≤ 65536) × (file_in text blank (tokens_from text 0) ≡ Ok x)
unfolding loaded
loaded_read text x h = by (eqb (length text) 0) (ltb 65536 (length text)) refl h
  where
    by : (none many : Bool) → ltb 65536 (length text) ≡ many → cond none (Err NoBytes) (cond many (Err TooManyBytes) (file_in text blank (tokens_from text 0))) ≡ Ok x → (length text ≤ 65536) × (file_in text blank (tokens_from text 0) ≡ Ok x)
    by true many e h = no_fault h
    by false true e h = no_fault h
    by false false e h = (ltb-false 65536 (length text) e, h)

-- no bytes are no plan
nothing_read : (x : Name × Draft) {A : Type 0} → file_in [] blank (tokens_from [] 0) ≡ Ok x → A
unfolding file_in tokens_from tokens_by scanned
nothing_read x h = no_fault h

some_bytes : (text : List ℕ) (x : Name × Draft) → file_in text blank (tokens_from text 0) ≡ Ok x → eqb (length text) 0 ≡ false
some_bytes [] x h = nothing_read x h
some_bytes (b ∷ bs) x h = by (eqb (length (b ∷ bs)) 0) refl
  where
    by : (t : Bool) → eqb (length (b ∷ bs)) 0 ≡ t → t ≡ false
    by true e = let z = eqb-true (length (b ∷ bs)) 0 e in absurd (omega (arith, z))
    by false e = refl

-- a text that obeys the language is loaded as its plan
obeying_loaded : (text : List ℕ) (plan : Known) → Obeys text plan → (n : Name) × (d : Draft) × (loaded text ≡ Ok (n, d)) × (known text n d ≡ plan)
obeying_loaded text plan o =
    let c = file_complete text plan o in
    (c.0, c.1, read_whole text (some_bytes text _ c.2) (le-ltb 65536 (length text) o.size) ∙ c.2, c.3)

same_loaded : {n m : Name} {d e : Draft} → ◌≡◌ {A = Result (Name × Draft) LoadFault} (Ok (n, d)) (Ok (m, e)) → ◌≡◌ {A = Name × Draft} (n, d) (m, e)
same_loaded h = cc

module _ (text : List ℕ) where
  -- a load, by what it leaves
  pub load_exactly : (before : Plan) (v : Result (Unit {0}) LoadFault) (after : Plan) → Loads text before v after → ExactlyObeying text v after
  load_exactly before (Ok u) after l =
      let r = loaded_read text _ l.0 in
      let held = file_sound text after.title (draft_of after) r.0 r.1 in (
        subst (λ t. Obeys text (known t after.title (draft_of after))) (sym l.1) held,
        λ plan o.
            let c = obeying_loaded text plan o in
            let same = same_loaded (sym c.2 ∙ l.0) in
            sym c.3 ∙ (ap (λ x. known text x.0 x.1) same ∙ ap (λ t. known t after.title (draft_of after)) (sym l.1)),
      )
  load_exactly before (Err e) after l = λ plan o. let c = obeying_loaded text plan o in no_fault (sym l.0 ∙ c.2)

  -- a check, by its answer
  pub check_exactly : (v : Result (Unit {0}) LoadFault) → v ≡ verdict (loaded text) → AcceptsObeying text v
  check_exactly v h = by (loaded text) refl v h
    where
      by : (r : Result (Name × Draft) LoadFault) → loaded text ≡ r → (v : Result (Unit {0}) LoadFault) → v ≡ verdict r → AcceptsObeying text v
      by (Ok x) e v h = let r = loaded_read text x e in subst (AcceptsObeying text) (sym h) (known text x.0 x.1, file_sound text x.0 x.1 r.0 r.1)
      by (Err x) e v h = subst (AcceptsObeying text) (sym h) λ plan o. let c = obeying_loaded text plan o in no_fault (sym e ∙ c.2)
