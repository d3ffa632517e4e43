mod Sampling
