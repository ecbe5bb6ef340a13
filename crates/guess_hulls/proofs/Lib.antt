mod HullLemmas
